use Rattle.of10_flow.proofs.Splitting.{same_lists}
use Rattle.of10_flow.proofs.table_laws.pieces_are_treated_as_the_whole.Goals as goal

pub returns : goal.returns
returns c = same_lists
