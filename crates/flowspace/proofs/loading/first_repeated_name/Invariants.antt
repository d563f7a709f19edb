use Rattle.std.proofs.Common.{◌≡◌, [], take, drop}
use Rattle.flowspace.specs.Loading.{first_along, name_fault}
use Rattle.flowspace.proofs.loading.first_repeated_name.Given as goal

abbrev pub invariant-loop-place : goal.invariant-loop-place
invariant-loop-place l = first_along name_fault (take l.place l.slices) (drop l.place l.slices) ≡ first_along name_fault [] l.slices
