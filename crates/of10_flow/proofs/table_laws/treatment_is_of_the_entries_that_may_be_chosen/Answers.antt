use Rattle.of10_flow.proofs.Choosing.{Treatment-iff}
use Rattle.of10_flow.proofs.table_laws.treatment_is_of_the_entries_that_may_be_chosen.Goals as goal

pub returns : goal.returns
returns c = Treatment-iff
