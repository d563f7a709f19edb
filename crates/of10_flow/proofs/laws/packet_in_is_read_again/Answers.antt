use Rattle.of10_flow.proofs.Again.{packet_in_of, packet_in_again}
use Rattle.of10_flow.proofs.laws.packet_in_is_read_again.Goals as goal

pub returns : goal.returns
returns c = λ m h. (packet_in_of m h, packet_in_again m h)
