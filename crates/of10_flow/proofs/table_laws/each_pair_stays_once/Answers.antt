use Rattle.of10_flow.proofs.Pairs.{once_empty, once_ApplyAll}
use Rattle.of10_flow.proofs.table_laws.each_pair_stays_once.Goals as goal

pub returns-clause-empty : goal.returns-clause-empty
returns-clause-empty c = once_empty

pub returns-clause-after : goal.returns-clause-after
returns-clause-after c = once_ApplyAll
