use Rattle.frame_header.proofs.Packets.{arp_header_again}
use Rattle.frame_header.proofs.laws.arp_packet_has_its_fields.Goals as goal

pub returns : goal.returns
returns c = λ in_port e a behind h arp. arp_header_again in_port e a behind h arp
