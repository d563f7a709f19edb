use Rattle.std.proofs.Common.{◌≡◌, ◌++◌, drop}
use Rattle.nested_slices.specs.Flat.{divided}
use Rattle.nested_slices.proofs.making.divided.Given as goal

abbrev pub invariant-loop-rule : goal.invariant-loop-rule
invariant-loop-rule l = l.parts.items ++ divided l.division (drop l.rule-index l.outer) ≡ divided l.division l.outer
