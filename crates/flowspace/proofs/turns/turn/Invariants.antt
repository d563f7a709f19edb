use Rattle.std.proofs.Common.{◌≤◌, length, drop}
use Rattle.flowspace.specs.Swaps.{IsTurnOf}
use Rattle.flowspace.proofs.turns.turn.Given as goal

abbrev pub invariant-loop-left : goal.invariant-loop-left
invariant-loop-left l = (l.left ≤ length l.pairs) × IsTurnOf (drop l.left l.pairs) l.others

abbrev pub decreases-loop-left : goal.decreases-loop-left
decreases-loop-left l = l.left
