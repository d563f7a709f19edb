use Rattle.of10_flow.proofs.Sequences.{none_left}
use Rattle.of10_flow.proofs.table_laws.strict_deletes_leave_none_of_theirs.Goals as goal

pub returns : goal.returns
returns c = none_left
