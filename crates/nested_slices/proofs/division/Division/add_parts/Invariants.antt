use Rattle.std.proofs.Common.{◌≡◌, ◌++◌, take, filter_map}
use Rattle.nested_slices.specs.Flat.{part}
use Rattle.nested_slices.proofs.division.Division.add_parts.Given as goal

abbrev pub invariant-loop-inner : goal.invariant-loop-inner
invariant-loop-inner l = l.to.items ≡ l.fn.to.items ++ filter_map (part l.self l.outer) (take l.inner-index l.rules)
