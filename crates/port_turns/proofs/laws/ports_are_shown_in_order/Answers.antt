use Rattle.port_turns.proofs.Features.{features_sorted}
use Rattle.port_turns.proofs.laws.ports_are_shown_in_order.Goals as goal

pub returns : goal.returns
returns c = features_sorted
