use Rattle.of10_flow.proofs.Meaning.{modify_as_add}
use Rattle.of10_flow.proofs.table_laws.modification_of_nothing_adds.Goals as goal

pub returns : goal.returns
returns c = modify_as_add
