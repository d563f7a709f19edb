use Rattle.std.proofs.Common.{true, sym, ◌∙◌}
use Rattle.proxy_core.proofs.Questions.{nobody_up, up_in_session}
use Rattle.proxy_core.proofs.desk.Desk.is_up.Goals as goal

pub returns-then-is_open : goal.returns-then-is_open
returns-then-is_open c = λ p ops s.
    c.is_up.ensures ∙ up_in_session c.args.self.now c.args.slot c.in-Some.session true c.in-Some.is (sym c.if-is_open.true ∙ c.is_open.ensures.phase) p ops s

pub returns-in-None : goal.returns-in-None
returns-in-None c = nobody_up c.args.self.now c.args.slot c.in-None.is
