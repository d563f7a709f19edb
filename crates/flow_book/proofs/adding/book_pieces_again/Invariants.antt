use Rattle.std.proofs.Common.{◌≡◌, map, take}
use Rattle.flow_book.specs.Order.{ArePairsInOrder}
use Rattle.flow_book.specs.Adding.{again}
use Rattle.flow_book.proofs.adding.book_pieces_again.Given as goal

abbrev pub invariant-loop-piece : goal.invariant-loop-piece
invariant-loop-piece l = (l.entries.booked ≡ map (again (take l.piece-index l.pieces) l.priority l.asked) l.fn.entries.booked) × ArePairsInOrder l.entries.booked × (l.entries.room ≡ l.fn.entries.room)
