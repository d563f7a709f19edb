use Rattle.std.proofs.Common.{All}
use Rattle.flowspace.specs.Slices.{IsPlainSlice}
use Rattle.test_rules.proofs.tests.index.eight_slices.Given as goal

abbrev pub invariant-loop-name : goal.invariant-loop-name
invariant-loop-name l = All IsPlainSlice l.slices.items
