use Rattle.std.proofs.Common.{◌≡◌, ◌++◌, length, take, drop}
use Rattle.std.specs.Prelude.{All}
use Rattle.flow_book.specs.Order.{ArePairsInOrder}
use Rattle.policy_change.specs.Planned.{planned, books_of}
use Rattle.policy_change.proofs.planned.planned.Given as goal

abbrev pub invariant-loop-slice : goal.invariant-loop-slice
invariant-loop-slice l = record {
  so_far : l.pairs.items ++ planned l.new (drop (length l.yielded) l.slices) (books_of (drop (length l.yielded) l.states)) ≡ planned l.new l.slices (books_of l.states);
  order : All (λ state. ArePairsInOrder state.book.booked) (take (length l.yielded) l.states);
}
