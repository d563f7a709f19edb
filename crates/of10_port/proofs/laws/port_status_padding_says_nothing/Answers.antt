use Rattle.of10_port.proofs.Padding.{port_status_alike}
use Rattle.of10_port.proofs.laws.port_status_padding_says_nothing.Goals as goal

pub returns : goal.returns
returns c = port_status_alike
