use Rattle.frame_header.proofs.Packets.{whole_ipv4, other_ipv4, fragment_ipv4}
use Rattle.frame_header.proofs.laws.ipv4_packet_has_its_fields.Goals as goal

pub returns : goal.returns
returns c = record {
  whole = λ in_port e p s rest h ip fits proto. whole_ipv4 in_port e p s rest h ip fits proto;
  other = λ in_port e p behind h ip icmp tcp udp. other_ipv4 in_port e p behind h ip icmp tcp udp;
  fragment = λ in_port e p fragment behind h ip some below. fragment_ipv4 in_port e p fragment behind h ip some below;
}
