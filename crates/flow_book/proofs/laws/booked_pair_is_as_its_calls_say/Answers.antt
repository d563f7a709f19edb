use Rattle.flow_book.proofs.Histories.{history}
use Rattle.flow_book.proofs.laws.booked_pair_is_as_its_calls_say.Goals as goal

pub returns-clause-asked : goal.returns-clause-asked
returns-clause-asked c m p calls b n e = (history m p n calls b e).0

pub returns-clause-number : goal.returns-clause-number
returns-clause-number c m p calls b n e = (history m p n calls b e).1
