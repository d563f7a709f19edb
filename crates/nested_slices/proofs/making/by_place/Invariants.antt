use Rattle.std.proofs.Common.{◌≡◌, ◌+◌, ◌++◌, length, drop}
use Rattle.nested_slices.specs.Flat.{by_place}
use Rattle.nested_slices.proofs.making.by_place.Given as goal

abbrev pub invariant-loop-rule : goal.invariant-loop-rule
invariant-loop-rule l = record {
  so_far : l.placed.items ++ by_place (drop l.rule-index l.rules) ≡ by_place l.rules;
  left : l.behind + l.rule-index ≡ length l.rules;
}
