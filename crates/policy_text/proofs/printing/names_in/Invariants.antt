use Rattle.std.proofs.Common.{◌≡◌, ◌++◌, ◌/◌, ◌^◌, drop, map}
use Rattle.policy_text.specs.Printing.{names_in}
use Rattle.policy_text.proofs.printing.names_in.Given as goal

abbrev pub invariant-loop-slot : goal.invariant-loop-slot
invariant-loop-slot l = map (λ s. s.now) l.names.items ++ names_in (l.bits / 2 ^ l.slot) (drop l.slot l.slices) ≡ names_in l.bits l.slices
