use Rattle.std.proofs.Common.{subst}
use Rattle.proxy_core.specs.Desks.{TakesNext}
use Rattle.proxy_core.proofs.Operating.{took, silent}
use Rattle.proxy_core.proofs.Taking.{shrinks_not}
use Rattle.proxy_core.proofs.desk.Desk.take.Goals as goal

pub returns-in-Some-clause-answer : goal.returns-in-Some-clause-answer
returns-in-Some-clause-answer c policy ops s =
    took policy ops c.args.dest c.in-Some.frame c.args.self.now c.next.new.self s (subst (λ next. TakesNext c.args.self.now c.args.dest next c.next.new.self) c.in-Some.is c.next.ensures.next) c.next.ensures.events

pub returns-in-None-clause-answer : goal.returns-in-None-clause-answer
returns-in-None-clause-answer c policy ops s =
    silent policy ops c.args.dest c.silence.result c.args.self.now c.next.new.self s (subst (λ next. TakesNext c.args.self.now c.args.dest next c.next.new.self) c.in-None.is c.next.ensures.next) c.next.ensures.events c.silence.ensures.value

pub returns-in-None-clause-less : goal.returns-in-None-clause-less
returns-in-None-clause-less c = shrinks_not c.args.dest c.silence.result c.args.self.now c.next.new.self c.silence.ensures.plain
