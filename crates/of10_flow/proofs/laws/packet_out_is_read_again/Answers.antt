use Rattle.of10_flow.proofs.Again.{packet_out_of, packet_out_again}
use Rattle.of10_flow.proofs.laws.packet_out_is_read_again.Goals as goal

pub returns : goal.returns
returns c = λ m h. (packet_out_of m h, packet_out_again m h)
