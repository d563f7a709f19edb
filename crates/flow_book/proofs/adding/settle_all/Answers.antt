use Rattle.std.proofs.Common.{arith, subst, ◌∙◌}
use Rattle.flow_book.proofs.Steps.{Settling, settle_more}
use Rattle.flow_book.proofs.adding.settle_all.Goals as goal

pub loop-entry-preserved : goal.loop-entry-preserved
loop-entry-preserved c = (
  settle_more c.args.fresh.now.items c.args.entries.now.booked c.pop.new.self.items c.in-Some.entry c.loop-entry.entries.booked c.settle.new.entries.booked
      (subst (λ l. Settling c.args.fresh.now.items c.args.entries.now.booked l c.loop-entry.entries.booked) c.in-Some.ensures.items c.loop-entry.invariant.0)
      c.settle.ensures.added c.settle.ensures.order,
  omega (arith, c.loop-entry.invariant.1, c.in-Some.ensures.len, c.settle.ensures.len),
  omega (arith, c.loop-entry.invariant.2, c.in-Some.ensures.len, c.settle.ensures.room),
  c.in-Some.ensures.capacity ∙ c.loop-entry.invariant.3,
)
