use Rattle.flow_book.proofs.OneOrder.{one_order}
use Rattle.flow_book.proofs.laws.book_has_one_order.Goals as goal

pub returns : goal.returns
returns c = one_order
