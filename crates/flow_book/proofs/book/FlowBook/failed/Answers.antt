use Rattle.std.proofs.Common.{sym, ◌∙◌, refl}
use Rattle.flow_book.proofs.Standing.{stands-failed}
use Rattle.flow_book.proofs.book.FlowBook.failed.Goals as goal

pub returns-then-is_first-clause-stands : goal.returns-then-is_first-clause-stands
returns-then-is_first-clause-stands c calls s =
    stands-failed calls c.args.self.now.booked c.removed.new.self c.args.number c.args.pattern.now c.args.priority s.same c.is_first.ensures.order
    (rw (sym c.is_first.ensures.value ∙ c.if-is_first.true) c.removed.ensures.booked)

pub returns-else-is_first-clause-stands : goal.returns-else-is_first-clause-stands
returns-else-is_first-clause-stands c calls s =
    stands-failed calls c.args.self.now.booked c.args.self.now c.args.number c.args.pattern.now c.args.priority s.same c.is_first.ensures.order
    (rw (sym c.is_first.ensures.value ∙ c.if-is_first.false) refl)
