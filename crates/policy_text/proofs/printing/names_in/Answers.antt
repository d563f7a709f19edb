use Rattle.std.proofs.Common.{arith}
use Rattle.std.proofs.lemmas.Grind.{common_steps}
use Rattle.policy_text.proofs.PrintedReaders.{names_step}
use Rattle.policy_text.proofs.printing.names_in.Goals as goal
use Rattle.policy_text.proofs.printing.names_in.Goals.{then-is_among+in_ok-push, else-is_among}

pub loop-slot-preserved : goal.loop-slot-preserved
loop-slot-preserved c =
    let step = names_step c.args.bits c.loop-slot.slot c.args.slices.now c.index-slices-slot.result c.loop-slot-test.true in
    let before = rw step at c.loop-slot.invariant in
    elim c.if-is_among.branch [
      | then-is_among+in_ok-push w ↦ (let pushed = w.in_ok-push.ensures.items in grind (arith, common_steps))
      | else-is_among w ↦ grind (arith, common_steps)
    ]
