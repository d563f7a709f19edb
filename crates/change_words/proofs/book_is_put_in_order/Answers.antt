use Rattle.change_words.proofs.Ordered.{booked_in_order}
use Rattle.change_words.proofs.book_is_put_in_order.Goals as goal

pub returns : goal.returns
returns c = booked_in_order
