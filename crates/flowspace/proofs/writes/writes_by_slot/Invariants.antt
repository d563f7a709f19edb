use Rattle.std.proofs.Common.{◌≡◌, length}
use Rattle.flowspace.specs.Places.{AreWrites}
use Rattle.flowspace.proofs.writes.writes_by_slot.Given as goal

abbrev pub invariant-loop-slot : goal.invariant-loop-slot
invariant-loop-slot l = (length l.writes.items ≡ l.slot) × AreWrites l.rules l.writes.items
