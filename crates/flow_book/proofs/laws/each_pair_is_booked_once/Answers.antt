use Rattle.flow_book.proofs.Once.{once}
use Rattle.flow_book.proofs.laws.each_pair_is_booked_once.Goals as goal

pub returns : goal.returns
returns c calls pieces = once calls pieces
