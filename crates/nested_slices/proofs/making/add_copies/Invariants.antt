use Rattle.std.proofs.Common.{◌≡◌, ◌++◌, drop}
use Rattle.nested_slices.proofs.making.add_copies.Given as goal

abbrev pub invariant-loop-slice : goal.invariant-loop-slice
invariant-loop-slice l = l.to.items ++ drop l.slice-index l.slices ≡ l.fn.to.items ++ l.slices
