use Rattle.std.proofs.Common.{sym, ◌∙◌}
use Rattle.flow_book.proofs.Standing.{booked-included}
use Rattle.flow_book.proofs.pairs.includes_booked.Goals as goal

pub returns-then-is_booked : goal.returns-then-is_booked
returns-then-is_booked c =
    c.if-is_booked.true
    ∙ sym (booked-included c.args.pattern.now c.args.priority c.args.entries.now.booked c.is_booked.ensures.normal (sym c.is_booked.ensures.value ∙ c.if-is_booked.true))
