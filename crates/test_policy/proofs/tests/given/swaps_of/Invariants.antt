use Rattle.std.proofs.Common.{All}
use Rattle.flowspace.specs.Swaps.{IsPlainSwap}
use Rattle.test_policy.proofs.tests.given.swaps_of.Given as goal

abbrev pub invariant-loop-row : goal.invariant-loop-row
invariant-loop-row l = All IsPlainSwap l.plain.items
