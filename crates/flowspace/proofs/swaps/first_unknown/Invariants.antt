use Rattle.std.proofs.Common.{◌≡◌, [], take, drop}
use Rattle.flowspace.specs.Loading.{first_along, swap_slot_fault}
use Rattle.flowspace.proofs.swaps.first_unknown.Given as goal

abbrev pub invariant-loop-place : goal.invariant-loop-place
invariant-loop-place l = first_along (swap_slot_fault l.slots) (take l.place l.swaps) (drop l.place l.swaps) ≡ first_along (swap_slot_fault l.slots) [] l.swaps
