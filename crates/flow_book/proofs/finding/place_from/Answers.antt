use Rattle.std.proofs.Common.{◌+◌, ◌-◌, ◌/◌, ◌<◌, length, sym, ap, ◌∙◌, arith}
use Rattle.std.specs.Ordering.{is_lt}
use Rattle.flow_book.proofs.Searches.{below_more, rest_more}
use Rattle.flow_book.proofs.finding.place_from.Goals as goal

pub loop-from-init : goal.loop-from-init
loop-from-init c = (omega arith, omega (arith, c.len-to.ensures), λ k d le lt. absurd (omega arith), λ k d le lt. absurd (omega (arith, c.len-to.ensures)))

pub loop-from-preserved : goal.loop-from-preserved
loop-from-preserved c =
    let middle = c.loop-from.from + (c.loop-from.to - c.loop-from.from) / 2 in
    let within : middle < length c.args.entries.now.booked = omega (arith, c.loop-from-test.true, c.loop-from.invariant.1) in (
      omega (arith, c.loop-from-test.true),
      omega (arith, within),
      c.loop-from.invariant.2,
      rest_more c.args.entries.now.booked c.requires.ascending c.args.priority c.args.spelled.now middle c.at.result.now within c.at.ensures
          (sym (ap is_lt c.stands_to.ensures) ∙ sym c.is_lt.ensures ∙ c.if-is_lt.false),
    )

pub loop-from-preserved-then-is_lt : goal.loop-from-preserved-then-is_lt
loop-from-preserved-then-is_lt c =
    let middle = c.loop-from.from + (c.loop-from.to - c.loop-from.from) / 2 in
    let within : middle < length c.args.entries.now.booked = omega (arith, c.loop-from-test.true, c.loop-from.invariant.1) in (
      omega (arith, c.loop-from-test.true),
      c.loop-from.invariant.1,
      below_more c.args.entries.now.booked c.requires.ascending c.args.priority c.args.spelled.now middle c.at.result.now within c.at.ensures
          (sym (ap is_lt c.stands_to.ensures) ∙ sym c.is_lt.ensures ∙ c.if-is_lt.true),
      c.loop-from.invariant.3,
    )
