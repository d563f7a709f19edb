use Rattle.std.proofs.Common.{◌≡◌, length}
use Rattle.flowspace.specs.Swaps.{AreTurns}
use Rattle.flowspace.proofs.turns.turns_by_slot.Given as goal

abbrev pub invariant-loop-slot : goal.invariant-loop-slot
invariant-loop-slot l = (length l.turns.items ≡ l.slot) × AreTurns l.swaps l.turns.items
