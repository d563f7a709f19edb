use Rattle.port_view.proofs.Knowing.{IsAscending-known_of, few-known_of}
use Rattle.port_view.proofs.Telling.{port_of-known_of}
use Rattle.port_view.proofs.laws.port_is_known_as_it_was_told_last.Goals as goal

pub returns : goal.returns
returns c = record { told = port_of-known_of; order = IsAscending-known_of; few = few-known_of }
