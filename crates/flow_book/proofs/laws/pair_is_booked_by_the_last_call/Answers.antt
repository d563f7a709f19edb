use Rattle.flow_book.specs.Books.{is_pair, book}
use Rattle.flow_book.proofs.Counts.{found}
use Rattle.flow_book.proofs.Histories.{history, last_is_booked}
use Rattle.flow_book.proofs.laws.pair_is_booked_by_the_last_call.Goals as goal

pub returns : goal.returns
returns c m p calls n = (
  λ within. (let f = found (is_pair m p) (book calls) within in (f.value.asked, (history m p n calls f.value f.is).0)),
  λ h. last_is_booked m p h.0 calls h.1,
)
