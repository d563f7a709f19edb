use Rattle.xid_map.proofs.Collecting.{length-collecting, newest-first}
use Rattle.xid_map.proofs.laws.at_most_eight_collect.Goals as goal

pub returns-clause-eight : goal.returns-clause-eight
returns-clause-eight c = length-collecting

pub returns-clause-order : goal.returns-clause-order
returns-clause-order c = newest-first
