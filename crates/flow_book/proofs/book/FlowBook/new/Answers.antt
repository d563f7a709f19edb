use Rattle.std.proofs.Common.{sym, subst, arith, ap, length}
use Rattle.flow_book.specs.Order.{ArePairsInOrder}
use Rattle.flow_book.proofs.Standing.{IsInOrder-nil}
use Rattle.flow_book.proofs.book.FlowBook.new.Goals as goal

pub invariant_of-result : goal.invariant_of-result
invariant_of-result c =
    (subst ArePairsInOrder (sym c.new.ensures) IsInOrder-nil, omega (arith, ap length c.new.ensures), c.new-2.ensures.items, c.new-2.ensures.len)
