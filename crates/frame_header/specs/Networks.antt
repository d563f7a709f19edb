-- The network and transport fields of a packet, by the protocol of its payload (OpenFlow 1.0.0, section 3.4).
use Rattle.std.specs.Prelude.{ℕ, ◌==◌, ◌&&◌, ◌||◌, ◌+◌, ◌*◌, ◌/◌, ◌%◌, leb, Bool, if◌then◌else◌, List, length, slice_index}
use Rattle.of10_model.specs.Normal.{number_at}
use Rattle.frame_header.specs.declared.network.Transport.{Transport}
use Rattle.frame_header.specs.declared.network.Network.{Network}

abbrev pub no_transport : Transport
no_transport = record { tp_src = 0; tp_dst = 0 }

-- TCP (6) and UDP (17) begin with two ports, ICMP (1) with a type and a code; what isn't all there, or of another protocol, is 0
unfoldable pub transport_at : ℕ → List ℕ → ℕ → Transport
transport_at proto packet place =
    if (proto == 6 || proto == 17) && leb (place + 4) (length packet) then record { tp_src = number_at packet place 2; tp_dst = number_at packet (place + 2) 2 }
    else if proto == 1 && leb (place + 2) (length packet) then record { tp_src = slice_index packet place; tp_dst = slice_index packet (place + 1) }
    else no_transport

abbrev pub no_network : Network
no_network = record { nw_tos = 0; nw_proto = 0; nw_src = 0; nw_dst = 0; tp_src = 0; tp_dst = 0 }

-- the length of an IPv4 header in bytes: its first byte's low four bits count words of four
abbrev pub header_length : List ℕ → ℕ
header_length packet = slice_index packet 0 % 16 * 4

-- an IPv4 packet that is no fragment: neither its offset nor its flag for more fragments is set
abbrev pub is_unfragmented : List ℕ → Bool
is_unfragmented packet = number_at packet 6 2 % 0x4000 == 0

-- the transport fields of an IPv4 packet, which a fragment hasn't (this proxy's own rule)
unfoldable pub transport_of : List ℕ → Transport
transport_of packet =
    if is_unfragmented packet then transport_at (slice_index packet 9) packet (header_length packet) else no_transport

-- IPv4: type of service without its two low bits, protocol, both addresses, and the transport; a header below 20 bytes is none
unfoldable pub ipv4_of : List ℕ → Network
ipv4_of packet =
    if leb 20 (length packet) && leb 20 (header_length packet) then record {
      nw_tos = slice_index packet 1 / 4 * 4;
      nw_proto = slice_index packet 9;
      nw_src = number_at packet 12 4;
      nw_dst = number_at packet 16 4;
      tp_src = (transport_of packet).tp_src;
      tp_dst = (transport_of packet).tp_dst;
    }
    else no_network

-- ARP: the low byte of the operation, and both protocol addresses
unfoldable pub arp_of : List ℕ → Network
arp_of packet =
    if leb 28 (length packet) then
    record no_network { nw_proto = slice_index packet 7; nw_src = number_at packet 14 4; nw_dst = number_at packet 24 4 }
    else no_network

-- the fields of a payload of a given type: IPv4, ARP or none
unfoldable pub network_of : ℕ → List ℕ → Network
network_of kind payload =
    if kind == 0x0800 then ipv4_of payload
    else if kind == 0x0806 then arp_of payload
    else no_network
