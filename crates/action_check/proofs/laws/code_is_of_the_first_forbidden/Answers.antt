use Rattle.action_check.proofs.Forbidding.{refused_iff}
use Rattle.action_check.proofs.laws.code_is_of_the_first_forbidden.Goals as goal

pub returns : goal.returns
returns c = λ q code. refused_iff q.rules q.slot q.origin q.actions q.flood q.all code
