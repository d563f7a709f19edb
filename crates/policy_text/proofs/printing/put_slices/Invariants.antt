use Rattle.std.proofs.Common.{◌≡◌, ◌++◌, length, string_bytes}
use Rattle.policy_text.specs.Printing.{slices_text}
use Rattle.policy_text.proofs.printing.put_slices.Given as goal

abbrev pub invariant-loop-rest : goal.invariant-loop-rest
invariant-loop-rest l = string_bytes l.out ++ slices_text l.rest ≡ string_bytes l.initial.out ++ slices_text l.slices

abbrev pub decreases-loop-rest : goal.decreases-loop-rest
decreases-loop-rest l = length l.rest
