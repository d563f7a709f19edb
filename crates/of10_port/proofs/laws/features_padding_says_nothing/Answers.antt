use Rattle.of10_port.proofs.Padding.{features_alike}
use Rattle.of10_port.proofs.laws.features_padding_says_nothing.Goals as goal

pub returns : goal.returns
returns c = features_alike
