use Rattle.std.proofs.Common.{sym, subst}
use Rattle.proxy_core.specs.Desks.{TakesNext}
use Rattle.proxy_core.proofs.Taking.{took_lane}
use Rattle.proxy_core.proofs.desk.Desk.next.Goals as goal

pub returns-in-Switch-clause-next : goal.returns-in-Switch-clause-next
returns-in-Switch-clause-next c =
    subst (λ dest. TakesNext c.args.self.now dest c.take.result (record c.args.self.now { lane = c.take.new.self })) (sym c.in-Switch.is)
    (took_lane c.args.self.now c.take.new.self c.take.result c.take.ensures.value c.take.ensures.stands)

pub returns-in-Slice-clause-next : goal.returns-in-Slice-clause-next
returns-in-Slice-clause-next c =
    subst (λ dest. TakesNext c.args.self.now dest c.next_of_slice.result c.next_of_slice.new.self) (sym c.in-Slice.is) c.next_of_slice.ensures.next
