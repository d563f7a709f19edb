use Rattle.policy_change.proofs.Staying.{stays-LiesInOneRule}
use Rattle.policy_change.proofs.laws.pair_stays_in_one_rule.Goals as goal

pub returns : goal.returns
returns c = stays-LiesInOneRule
