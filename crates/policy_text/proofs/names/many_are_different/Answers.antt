use Rattle.std.proofs.Common.{get_or, arith}
use Rattle.std.proofs.lemmas.Grind.{common_steps}
use Rattle.policy_text.proofs.Named.{added_more, added_not}
use Rattle.policy_text.proofs.names.many_are_different.Goals as goal

pub returns-then-not-branch : goal.returns-then-not-branch
returns-then-not-branch c =
    added_not c.args.slots.now c.loop-slot.slot-index c.in_ok-insert.field-0 _ c.loop-slot-test.true c.loop-slot.invariant.1 (c.loop-slot.invariant.0 (get_or c.args.slots.now c.loop-slot.slot-index 0)) c.in_ok-insert.ensures.added c.if-not-branch.true

pub loop-slot-preserved : goal.loop-slot-preserved
loop-slot-preserved c = (
  λ other. grind (arith, common_steps, c.loop-slot.invariant.0 other),
  added_more c.args.slots.now c.loop-slot.slot-index c.in_ok-insert.field-0 _ c.loop-slot-test.true c.loop-slot.invariant.1 (c.loop-slot.invariant.0 (get_or c.args.slots.now c.loop-slot.slot-index 0)) c.in_ok-insert.ensures.added c.if-not-branch.false,
)
