use Rattle.std.proofs.Common.{◌≡◌, take}
use Rattle.flowspace.proofs.slices.copies.Given as goal

abbrev pub invariant-loop-slice : goal.invariant-loop-slice
invariant-loop-slice l = l.copies.items ≡ take l.slice-index l.slices
