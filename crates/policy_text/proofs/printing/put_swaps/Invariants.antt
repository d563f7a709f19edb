use Rattle.std.proofs.Common.{◌≡◌, ◌++◌, length, string_bytes}
use Rattle.std.specs.List.{AllByRecursion}
use Rattle.policy_text.specs.Printing.{swaps_text, IsSwapInRange}
use Rattle.policy_text.proofs.printing.put_swaps.Given as goal

abbrev pub invariant-loop-rest : goal.invariant-loop-rest
invariant-loop-rest l = (string_bytes l.out ++ swaps_text l.slices l.rest ≡ string_bytes l.initial.out ++ swaps_text l.slices l.swaps) × (AllByRecursion IsSwapInRange l.rest → AllByRecursion IsSwapInRange l.swaps)

abbrev pub decreases-loop-rest : goal.decreases-loop-rest
decreases-loop-rest l = length l.rest
