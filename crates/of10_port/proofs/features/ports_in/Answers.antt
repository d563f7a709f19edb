use Rattle.of10_port.specs.Ports.{ports_in}
use Rattle.of10_port.proofs.features.ports_in.Goals as goal

pub returns-clause-value : goal.returns-clause-value
unfolding ports_in
returns-clause-value c = c.as_chunks.ensures.front
