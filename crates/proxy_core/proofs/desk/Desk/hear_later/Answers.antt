use Rattle.std.proofs.Common.{Bool, subst}
use Rattle.proxy_core.specs.Desks.{PassesOn}
use Rattle.proxy_core.proofs.Switched.{hears_bad, hears_good}
use Rattle.proxy_core.proofs.desk.Desk.hear_later.Goals as goal

pub returns-then-not-branch-clause-ok : goal.returns-then-not-branch-clause-ok
returns-then-not-branch-clause-ok c moment =
    hears_bad c.args.self.now c.pass_on.new.self c.end.new.self moment c.args.frame.now
    (subst (λ (go : Bool). PassesOn moment c.args.frame.now go c.args.self.now c.pass_on.new.self) c.if-not-branch.true (c.in_ok-pass_on.ensures.ok moment)) c.end.ensures.ended

pub returns-clause-ok : goal.returns-clause-ok
returns-clause-ok c moment =
    hears_good c.args.self.now c.pass_on.new.self moment c.args.frame.now
    (subst (λ (go : Bool). PassesOn moment c.args.frame.now go c.args.self.now c.pass_on.new.self) c.if-not-branch.false (c.in_ok-pass_on.ensures.ok moment))
