use Rattle.std.proofs.Common.{◌≡◌, [], take, drop}
use Rattle.flowspace.specs.Loading.{first_along, overlap_fault}
use Rattle.flowspace.proofs.loading.first_overlap.Given as goal

abbrev pub invariant-loop-index : goal.invariant-loop-index
invariant-loop-index l = first_along overlap_fault (take l.index l.ordered) (drop l.index l.ordered) ≡ first_along overlap_fault [] l.ordered
