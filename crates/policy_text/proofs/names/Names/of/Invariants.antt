use Rattle.std.proofs.Common.{◌≡◌, ℕ, ◌≤◌, List, length}
use Rattle.std.specs.BTreeMap.{get_by}
use Rattle.std.specs.Ordering.{nat_cmp}
use Rattle.std.specs.Cmp.Lexicographic.{slice_cmp}
use Rattle.policy_text.proofs.Named.{slot_from}
use Rattle.policy_text.proofs.names.Names.of.Given as goal

abbrev pub invariant-loop-slot : goal.invariant-loop-slot
invariant-loop-slot l =
    (l.slot ≤ length l.slices)
    × ((name : List ℕ) → get_by (λ k. slice_cmp nat_cmp name k.now) l.slots ≡ slot_from l.slices l.slot name)

abbrev pub decreases-loop-slot : goal.decreases-loop-slot
decreases-loop-slot l = l.slot
