use Rattle.std.proofs.Common.{ℕ, ◌-◌, get_or, arith}
use Rattle.std.proofs.lemmas.Grind.{common_steps}
use Rattle.std.proofs.lemmas.List.{get_or_default}
use Rattle.flowspace.proofs.Swapping.{swapped_front}
use Rattle.flowspace.proofs.turns.turn.Goals as goal

pub loop-left-preserved : goal.loop-left-preserved
loop-left-preserved c =
    let pairs = c.args.pairs.now in
    let some = c.loop-left-test.true in
    let within = c.loop-left.invariant.0 in
    let pair : ℕ × ℕ = get_or pairs (c.loop-left.left - 1) (0, 0) in (
      omega (arith, within),
      λ port. grind (
        arith,
        common_steps,
        c.loop-left.invariant.1 port,
        swapped_front pairs c.loop-left.left port pair (omega (arith, some)) within (get_or_default pairs (c.loop-left.left - 1) (0, 0) pair (omega (arith, some, within))),
      ),
    )
