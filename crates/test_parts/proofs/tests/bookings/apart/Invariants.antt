use Rattle.std.proofs.Common.{◌≢◌, ◌≤◌, length}
use Rattle.std.specs.Prelude.{AllPairs}
use Rattle.test_parts.proofs.tests.bookings.apart.Given as goal

abbrev pub invariant-loop-number : goal.invariant-loop-number
invariant-loop-number l = AllPairs (λ a b. a ≢ b) l.pieces.items × (length l.pieces.items ≤ 100)
