use Rattle.policy_laws.proofs.Versions.{higher}
use Rattle.policy_laws.proofs.laws.higher_versions_change_no_policy.Goals as goal

pub returns : goal.returns
returns c = λ lower upper document policy le e. higher lower upper document policy le e
