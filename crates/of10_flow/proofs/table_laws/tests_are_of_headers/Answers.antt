use Rattle.of10_flow.proofs.Meaning.{names_iff, describes_iff, overlaps_iff}
use Rattle.of10_flow.proofs.table_laws.tests_are_of_headers.Goals as goal

pub returns-clause-named : goal.returns-clause-named
returns-clause-named c = names_iff

pub returns-clause-described : goal.returns-clause-described
returns-clause-described c = describes_iff

pub returns-clause-overlapping : goal.returns-clause-overlapping
returns-clause-overlapping c = overlaps_iff
