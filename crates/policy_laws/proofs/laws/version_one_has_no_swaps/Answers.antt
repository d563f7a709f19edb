use Rattle.policy_laws.proofs.Versions.{no_swaps}
use Rattle.policy_laws.proofs.laws.version_one_has_no_swaps.Goals as goal

pub returns : goal.returns
returns c = λ document policy e. no_swaps document policy e
