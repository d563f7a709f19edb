use Rattle.of10_flow.proofs.Padding.{packet_in_alike}
use Rattle.of10_flow.proofs.laws.packet_in_padding_says_nothing.Goals as goal

pub returns : goal.returns
returns c = packet_in_alike
