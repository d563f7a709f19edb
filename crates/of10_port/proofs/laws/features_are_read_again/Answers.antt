use Rattle.of10_port.proofs.Pieces.{length-port_bytes}
use Rattle.of10_port.proofs.Again.{IsOf-features, features_again}
use Rattle.of10_port.proofs.laws.features_are_read_again.Goals as goal

pub returns-clause-kind : goal.returns-clause-kind
returns-clause-kind c = λ f xid h. IsOf-features f xid (length-port_bytes f.ports h.ports) h.few

pub returns-clause-again : goal.returns-clause-again
returns-clause-again c = features_again
