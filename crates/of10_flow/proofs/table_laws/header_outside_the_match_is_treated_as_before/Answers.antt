use Rattle.of10_flow.proofs.Keeping.{having-Apply, Treatment-Apply}
use Rattle.of10_flow.proofs.Sequences.{Treatment-ApplyAll}
use Rattle.of10_flow.proofs.table_laws.header_outside_the_match_is_treated_as_before.Goals as goal

pub returns-clause-entries : goal.returns-clause-entries
returns-clause-entries c = having-Apply

pub returns-clause-treatment : goal.returns-clause-treatment
returns-clause-treatment c = Treatment-Apply

pub returns-clause-in_turn : goal.returns-clause-in_turn
returns-clause-in_turn c = Treatment-ApplyAll
