use Rattle.proxy_core.proofs.Questions.{states_told, nothing_kept}
use Rattle.proxy_core.proofs.desk.Desk.states.Goals as goal

pub returns-in-Some : goal.returns-in-Some
returns-in-Some c = rw c.as_slice.ensures.value (states_told c.args.self.now c.in-Some.session c.in-Some.is)

pub returns-in-None : goal.returns-in-None
returns-in-None c = nothing_kept c.args.self.now c.in-None.is
