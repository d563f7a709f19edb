use Rattle.std.proofs.Common.{◌≡◌, ℕ, true, nat_eq, take}
use Rattle.std.specs.List.{list_any}
use Rattle.std.specs.BTreeSet.{contains}
use Rattle.std.specs.Ordering.{nat_cmp}
use Rattle.policy_text.specs.Rules.{are_different}
use Rattle.policy_text.proofs.names.many_are_different.Given as goal

abbrev pub invariant-loop-slot : goal.invariant-loop-slot
invariant-loop-slot l =
    ((other : ℕ) → contains nat_cmp l.seen other ≡ list_any (nat_eq other) (take l.slot-index l.slots))
    × (are_different (take l.slot-index l.slots) ≡ true)
