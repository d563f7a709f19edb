use Rattle.std.proofs.Common.{ap, sym, ◌∙◌, Some}
use Rattle.flow_book.proofs.Counts.{booking_kept}
use Rattle.flow_book.proofs.Places.{find_pair-at, find_pair-gap}
use Rattle.flow_book.proofs.book.FlowBook.booked.Goals as goal

pub returns-in-Ok-clause-value : goal.returns-in-Ok-clause-value
returns-in-Ok-clause-value c =
    rw (← c.self.view_is) (
    ap Some c.booked.ensures
    ∙ sym (find_pair-at c.self.inside.entries.booked c.args.pattern.now c.args.priority c.in-Ok.place c.at.result.now c.self.invariant.0 c.place_of.ensures.normal c.in-Ok.ensures.found (sym (c.at.ensures c.at.result.now))))

pub returns-in-Ok-clause-answer : goal.returns-in-Ok-clause-answer
returns-in-Ok-clause-answer c calls s =
    returns-in-Ok-clause-value c ∙ booking_kept calls c.args.self.now s (rw (← c.self.view_is) c.self.invariant.0) c.args.pattern.now c.args.priority

pub returns-in-Err-clause-value : goal.returns-in-Err-clause-value
returns-in-Err-clause-value c =
    rw (← c.self.view_is) (sym (find_pair-gap c.self.inside.entries.booked c.args.pattern.now c.args.priority c.in-Err.field-0 c.in-Err.ensures.absent))

pub returns-in-Err-clause-answer : goal.returns-in-Err-clause-answer
returns-in-Err-clause-answer c calls s =
    returns-in-Err-clause-value c ∙ booking_kept calls c.args.self.now s (rw (← c.self.view_is) c.self.invariant.0) c.args.pattern.now c.args.priority
