use Rattle.std.proofs.Common.{◌≡◌, ◌≤◌, ◌-◌, false, length}
use Rattle.std.specs.List.{AllWithin}
use Rattle.std.specs.declared.cmp.Ordering.TheVariants.{Less}
use Rattle.std.specs.Ordering.{is_lt}
use Rattle.flow_book.proofs.Searches.{stands}
use Rattle.flow_book.proofs.finding.place_from.Given as goal

abbrev pub invariant-loop-from : goal.invariant-loop-from
invariant-loop-from l =
    (l.from ≤ l.to) × (l.to ≤ length l.entries.booked)
    × AllWithin (λ b. stands l.priority l.spelled b ≡ Less) l.entries.booked 0 l.from
    × AllWithin (λ b. is_lt (stands l.priority l.spelled b) ≡ false) l.entries.booked l.to (length l.entries.booked)

abbrev pub decreases-loop-from : goal.decreases-loop-from
decreases-loop-from l = l.to - l.from
