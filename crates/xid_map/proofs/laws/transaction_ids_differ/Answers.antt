use Rattle.xid_map.proofs.Numbering.{remembered-differ}
use Rattle.xid_map.proofs.laws.transaction_ids_differ.Goals as goal

pub returns : goal.returns
returns c = remembered-differ
