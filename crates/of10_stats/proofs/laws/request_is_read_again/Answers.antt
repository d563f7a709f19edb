use Rattle.of10_stats.proofs.Again.{IsOf-request, request_again}
use Rattle.of10_stats.proofs.laws.request_is_read_again.Goals as goal

pub returns-clause-kind : goal.returns-clause-kind
returns-clause-kind c = λ r xid h. IsOf-request r xid

pub returns-clause-again : goal.returns-clause-again
returns-clause-again c = request_again
