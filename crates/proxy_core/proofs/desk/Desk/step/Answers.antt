use Rattle.std.proofs.Common.{◌+◌, Ok, refl, sym, ◌∙◌, subst}
use Rattle.std.proofs.lemmas.Result.{err_from_is_err_and}
use Rattle.proxy_core.specs.Desks.{Replied}
use Rattle.proxy_core.proofs.Operating.{refused, stepped}
use Rattle.proxy_core.proofs.desk.Desk.step.Goals as goal

pub returns-in_err-go : goal.returns-in_err-go
returns-in_err-go c policy ops s =
    let p = err_from_is_err_and c.from_residual.result c.from_residual.ensures.1 in
    subst (λ reply. Replied policy ops c.args.timed reply c.act.new.self) (sym p.1)
    (refused policy ops c.args.timed p.0 c.args.self.now c.act.new.self s (sym c.is_over.ensures ∙ c.if-is_over.false) c.in_err-go.ensures.err c.act.ensures.events c.in_err-go.ensures.memory)

pub returns : goal.returns
returns c policy ops s =
    subst (λ verdict. Replied policy ops c.args.timed (Ok verdict) (record c.act.new.self { events = c.args.self.now.events + 1 })) (sym c.verdict_of.ensures)
    (stepped policy ops c.args.timed c.in_ok-go.go c.args.self.now c.act.new.self (c.args.self.now.events + 1) s (sym c.is_over.ensures ∙ c.if-is_over.false) c.in_ok-go.ensures.ok refl)
