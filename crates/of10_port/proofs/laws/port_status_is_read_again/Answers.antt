use Rattle.of10_port.proofs.Again.{IsOf-port_status, port_status_again}
use Rattle.of10_port.proofs.laws.port_status_is_read_again.Goals as goal

pub returns-clause-kind : goal.returns-clause-kind
returns-clause-kind c = λ s xid h. IsOf-port_status s xid h.port

pub returns-clause-again : goal.returns-clause-again
returns-clause-again c = port_status_again
