use Rattle.action_check.proofs.Forbidding.{given_iff}
use Rattle.action_check.proofs.laws.list_is_given_where_all_are_allowed.Goals as goal

pub returns : goal.returns
returns c = λ q. given_iff q.rules q.slot q.origin q.actions q.flood q.all
