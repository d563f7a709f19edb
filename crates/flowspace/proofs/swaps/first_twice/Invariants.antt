use Rattle.std.proofs.Common.{◌≡◌, [], take, drop}
use Rattle.flowspace.specs.Loading.{first_along, twice_fault}
use Rattle.flowspace.proofs.swaps.first_twice.Given as goal

abbrev pub invariant-loop-place : goal.invariant-loop-place
invariant-loop-place l = first_along twice_fault (take l.place l.swaps) (drop l.place l.swaps) ≡ first_along twice_fault [] l.swaps
