use Rattle.std.proofs.Common.{◌≡◌, [], take, drop}
use Rattle.flowspace.specs.Loading.{first_along, writes_fault}
use Rattle.flowspace.proofs.loading.first_full_slice.Given as goal

abbrev pub invariant-loop-slot : goal.invariant-loop-slot
invariant-loop-slot l = first_along (writes_fault l.rules) (take l.slot l.slices) (drop l.slot l.slices) ≡ first_along (writes_fault l.rules) [] l.slices
