use Rattle.std.proofs.Common.{◌≡◌, ◌+◌, length}
use Rattle.std.specs.Prelude.{vec_len, vec_capacity}
use Rattle.flow_book.proofs.Steps.{Settling}
use Rattle.flow_book.proofs.adding.settle_all.Given as goal

abbrev pub invariant-loop-entry : goal.invariant-loop-entry
invariant-loop-entry l =
    Settling l.fn.fresh.items l.fn.entries.booked l.fresh.items l.entries.booked
    × (length l.entries.booked + vec_len l.fresh ≡ length l.fn.entries.booked + vec_len l.fn.fresh)
    × (l.entries.room + vec_len l.fn.fresh ≡ l.fn.entries.room + vec_len l.fresh)
    × (vec_capacity l.fresh ≡ vec_capacity l.fn.fresh)

abbrev pub decreases-loop-entry : goal.decreases-loop-entry
decreases-loop-entry l = vec_len l.fresh
