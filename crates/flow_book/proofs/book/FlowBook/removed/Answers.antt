use Rattle.std.proofs.Common.{ap, sym, subst, ◌∙◌, arith, length, not}
use Rattle.std.proofs.lemmas.List.Edits.{length-remove}
use Rattle.flow_book.specs.Order.{ArePairsInOrder}
use Rattle.flow_book.specs.Books.{is_pair}
use Rattle.flow_book.proofs.Counts.{booking_kept}
use Rattle.flow_book.proofs.Places.{find_pair-at, find_pair-gap, remove_pair, without-gap, IsInOrder-filter}
use Rattle.flow_book.proofs.Standing.{stands-removed}
use Rattle.flow_book.proofs.book.FlowBook.removed.Goals as goal

pub invariant_of-self : goal.invariant_of-self
invariant_of-self c = (
  subst ArePairsInOrder (sym (c.remove.ensures.booked ∙ remove_pair c.self.inside.entries.booked c.args.pattern.now c.args.priority c.in-Ok.place c.self.invariant.0 c.place_of.ensures.normal c.in-Ok.ensures.found))
      (IsInOrder-filter (λ b. not (is_pair c.args.pattern.now c.args.priority b)) c.self.inside.entries.booked c.self.invariant.0),
  omega (arith, c.self.invariant.1, ap length c.remove.ensures.booked, length-remove c.self.inside.entries.booked c.in-Ok.place c.in-Ok.ensures.found.in_range),
  c.self.invariant.2,
  c.self.invariant.3,
)

pub returns-in-Ok-clause-value : goal.returns-in-Ok-clause-value
returns-in-Ok-clause-value c =
    rw (← c.self.view_is) (
    sym (find_pair-at c.self.inside.entries.booked c.args.pattern.now c.args.priority c.in-Ok.place c.remove.result c.self.invariant.0 c.place_of.ensures.normal c.in-Ok.ensures.found (c.remove.ensures.value c.remove.result)))

pub returns-in-Ok-clause-answer : goal.returns-in-Ok-clause-answer
returns-in-Ok-clause-answer c calls s =
    returns-in-Ok-clause-value c ∙ booking_kept calls c.args.self.now s (rw (← c.self.view_is) c.self.invariant.0) c.args.pattern.now c.args.priority

pub returns-in-Ok-clause-booked : goal.returns-in-Ok-clause-booked
returns-in-Ok-clause-booked c =
    rw (← c.self.view_is) (c.remove.ensures.booked ∙ remove_pair c.self.inside.entries.booked c.args.pattern.now c.args.priority c.in-Ok.place c.self.invariant.0 c.place_of.ensures.normal c.in-Ok.ensures.found)

pub returns-in-Ok-clause-stands : goal.returns-in-Ok-clause-stands
returns-in-Ok-clause-stands c calls s = stands-removed calls c.args.self.now.booked _ c.args.pattern.now c.args.priority s.same (returns-in-Ok-clause-booked c)

pub returns-in-Err-clause-value : goal.returns-in-Err-clause-value
returns-in-Err-clause-value c =
    rw (← c.self.view_is) (sym (find_pair-gap c.self.inside.entries.booked c.args.pattern.now c.args.priority c.in-Err.field-0 c.in-Err.ensures.absent))

pub returns-in-Err-clause-answer : goal.returns-in-Err-clause-answer
returns-in-Err-clause-answer c calls s =
    returns-in-Err-clause-value c ∙ booking_kept calls c.args.self.now s (rw (← c.self.view_is) c.self.invariant.0) c.args.pattern.now c.args.priority

pub returns-in-Err-clause-booked : goal.returns-in-Err-clause-booked
returns-in-Err-clause-booked c =
    rw (← c.self.view_is) (sym (without-gap c.self.inside.entries.booked c.args.pattern.now c.args.priority c.in-Err.field-0 c.in-Err.ensures.absent))

pub returns-in-Err-clause-stands : goal.returns-in-Err-clause-stands
returns-in-Err-clause-stands c calls s = stands-removed calls c.args.self.now.booked c.args.self.now c.args.pattern.now c.args.priority s.same (returns-in-Err-clause-booked c)
