-- A packet that is spelled from its fields is given these.
use Rattle.std.proofs.Common.{◌≡◌, ◌≢◌, ℕ, ◌==◌, ◌||◌, ◌+◌, ◌*◌, ◌/◌, ◌%◌, ◌^◌, ◌<◌, ◌≤◌, leb, Bool, true, false, List, [], ◌∷◌, ◌++◌, length, drop, slice_index, Option, Some, None, refl, ap, ◌∙◌, arith}
use Rattle.std.proofs.Math.Nat.{mod-eq_of_lt}
use Rattle.std.proofs.Math.Seq.{drop-append_seam, drop-append-add}
use Rattle.std.proofs.lemmas.Bool.{le-leb, lt-leb, leb-true, leb-false, ne_eqb}
use Rattle.std.proofs.lemmas.List.{length-append, get_or-append-add}
use Rattle.byteorder.specs.Endian.{big_bytes}
use Rattle.byteorder.specs.Numbers.{big_number-reads_back}
use Rattle.of10_model.specs.Normal.{number_at}
use Rattle.frame_header.specs.declared.network.Transport.{Transport}
use Rattle.frame_header.specs.declared.network.Network.{Network}
use Rattle.frame_header.specs.Links.{field_at, typed, tagged_link, link_of}
use Rattle.frame_header.specs.Networks.{header_length, no_transport, transport_at, transport_of, ipv4_of, arp_of, network_of}
use Rattle.frame_header.specs.Headers.{header_of_packet}
use Rattle.frame_header.specs.Packets.{Tag, IsTag, IsTagOrNone, Framing, IsFraming, spell_snap, spell_type, Ethernet, IsEthernet, spell_ethernet, vlan_of, pcp_of, Segment, IsSegment, proto_of, first_port, second_of, spell_segment, Ipv4, IsIpv4, spell_ipv4_header, spell_ipv4, ipv4_header, Arp, IsArp, spell_arp, arp_header}

-- ---- Ethernet

record AreTagParts (word priority vlan : ℕ) : Type 0 where
  id : word % 0x1000 ≡ vlan
  pcp : word / 0x2000 ≡ priority
  fits : word < 256 ^ 2

tag_parts : (t : Tag) → IsTag t → AreTagParts (t.pcp * 0x2000 + t.mark * 0x1000 + t.id) t.pcp t.id
tag_parts t h =
    let a = h.pcp in
    let b = h.mark in
    let c = h.id in
    record { id = omega arith; pcp = omega arith; fits = omega arith }

record IsType (kind : ℕ) : Type 0 where
  fits : kind < 256 ^ 2
  least : leb 0x0600 kind ≡ true
  no_tag : (kind == 0x8100) ≡ false

type_again : (f : Framing) (kind : ℕ) (payload : List ℕ) → IsFraming f → IsType kind
    → typed (number_at (spell_type f kind ++ payload) 0 2) (drop 2 (spell_type f kind ++ payload)) ≡ record { kind = kind; payload = payload }
unfolding typed
type_again Framing.EthernetTwo kind payload h k = rw (big_number-reads_back 2 kind [] k.fits, k.least) refl
type_again (Framing.Snap size) kind payload h k =
    rw (
      big_number-reads_back 2 size [] (omega (arith, h)),
      lt-leb 0x0600 size h,
      le-leb 8 (length (spell_snap kind ++ payload)) (omega arith),
      big_number-reads_back 2 kind [] k.fits,
    ) refl

type_is_no_tag : (f : Framing) (kind : ℕ) (payload : List ℕ) → IsFraming f → IsType kind → (number_at (spell_type f kind ++ payload) 0 2 == 0x8100) ≡ false
type_is_no_tag Framing.EthernetTwo kind payload h k = rw (big_number-reads_back 2 kind [] k.fits) k.no_tag
type_is_no_tag (Framing.Snap size) kind payload h k =
    rw (big_number-reads_back 2 size [] (omega (arith, h))) (ne_eqb size 0x8100 (λ e. omega (arith, h, e)))

type_is_there : (f : Framing) (kind : ℕ) (payload : List ℕ) → 2 ≤ length (spell_type f kind ++ payload)
type_is_there Framing.EthernetTwo kind payload = omega arith
type_is_there (Framing.Snap size) kind payload = omega arith

tagged_again : (t : Tag) (f : Framing) (kind : ℕ) (payload : List ℕ) → IsTag t → IsFraming f → IsType kind
    → tagged_link (big_bytes 2 (t.pcp * 0x2000 + t.mark * 0x1000 + t.id) ++ spell_type f kind ++ payload) ≡ record { vlan = t.id; pcp = t.pcp; kind = kind; payload = payload }
unfolding tagged_link
tagged_again t f kind payload h g k =
    let bytes = big_bytes 2 (t.pcp * 0x2000 + t.mark * 0x1000 + t.id) ++ spell_type f kind ++ payload in
    let parts = tag_parts t h in
    rw (
      le-leb 4 (length bytes) (omega (arith, type_is_there f kind payload)),
      big_number-reads_back 2 (t.pcp * 0x2000 + t.mark * 0x1000 + t.id) [] parts.fits,
      type_again f kind payload g k,
      parts.id,
      parts.pcp,
    ) refl

link_with : (dst src : ℕ) (tag : Option Tag) (f : Framing) (kind : ℕ) (payload : List ℕ) → IsTagOrNone tag → IsFraming f → IsType kind
    → link_of (spell_ethernet (record { dst = dst; src = src; tag = tag; framing = f }) kind payload) ≡ record { vlan = vlan_of tag; pcp = pcp_of tag; kind = kind; payload = payload }
unfolding spell_ethernet link_of
link_with dst src None f kind payload h g k =
    let bytes = spell_ethernet (record { dst = dst; src = src; tag = None; framing = f }) kind payload in
    rw (
      le-leb 14 (length bytes) (omega (arith, type_is_there f kind payload)),
      type_is_no_tag f kind payload g k,
      type_again f kind payload g k,
    ) refl
link_with dst src (Some t) f kind payload h g k =
    let bytes = spell_ethernet (record { dst = dst; src = src; tag = Some t; framing = f }) kind payload in
    rw (le-leb 14 (length bytes) (omega arith)) (tagged_again t f kind payload h g k)

link_again : (e : Ethernet) (kind : ℕ) (payload : List ℕ) → IsEthernet e → IsType kind → link_of (spell_ethernet e kind payload) ≡ record { vlan = vlan_of e.tag; pcp = pcp_of e.tag; kind = kind; payload = payload }
link_again e kind payload h k = link_with e.dst e.src e.tag e.framing kind payload h.tag h.framing k

dst_again : (e : Ethernet) (kind : ℕ) (payload : List ℕ) → IsEthernet e → field_at (spell_ethernet e kind payload) 0 6 ≡ e.dst
unfolding spell_ethernet
dst_again e kind payload h =
    rw (le-leb 6 (length (spell_ethernet e kind payload)) (omega arith)) (big_number-reads_back 6 e.dst [] h.dst)

src_again : (e : Ethernet) (kind : ℕ) (payload : List ℕ) → IsEthernet e → field_at (spell_ethernet e kind payload) 6 6 ≡ e.src
unfolding spell_ethernet
src_again e kind payload h =
    rw (le-leb 12 (length (spell_ethernet e kind payload)) (omega arith)) (big_number-reads_back 6 e.src [] h.src)

header_again : (in_port : ℕ) (e : Ethernet) (kind : ℕ) (payload : List ℕ) (network : Network)
    → IsEthernet e → IsType kind → network_of kind payload ≡ network
    → header_of_packet in_port (spell_ethernet e kind payload)
    ≡ record {
      in_port = in_port;
      dl_src = e.src;
      dl_dst = e.dst;
      dl_vlan = vlan_of e.tag;
      dl_vlan_pcp = pcp_of e.tag;
      dl_type = kind;
      nw_tos = network.nw_tos;
      nw_proto = network.nw_proto;
      nw_src = network.nw_src;
      nw_dst = network.nw_dst;
      tp_src = network.tp_src;
      tp_dst = network.tp_dst;
    }
unfolding header_of_packet
header_again in_port e kind payload network h k n =
    rw (link_again e kind payload h k, n, dst_again e kind payload h, src_again e kind payload h) refl

-- ---- IPv4

ipv4_length : (p : Ipv4) (fragment : ℕ) (behind : List ℕ) → IsIpv4 p → header_length (spell_ipv4 p fragment behind) ≡ 20 + length p.options
unfolding spell_ipv4
ipv4_length p fragment behind h =
    let a = h.words in
    let b = h.most in
    omega arith

same_test : (n a b : ℕ) (t : Bool) → leb a b ≡ t → leb (n + a) (n + b) ≡ t
same_test n a b true e = le-leb (n + a) (n + b) (omega (arith, leb-true a b e))
same_test n a b false e = lt-leb (n + a) (n + b) (omega (arith, leb-false a b e))

byte_behind : (front behind : List ℕ) → slice_index (front ++ behind) (length front) ≡ slice_index behind 0
byte_behind [] behind = refl
byte_behind (b ∷ front) behind = byte_behind front behind

-- the transport fields behind a part of a packet
transport_behind : (proto : ℕ) (front behind : List ℕ) → transport_at proto (front ++ behind) (length front) ≡ transport_at proto behind 0
unfolding transport_at
transport_behind proto front behind =
    let bytes = front ++ behind in
    let size : length bytes ≡ length front + length behind = length-append front behind in
    let four : leb (length front + 4) (length bytes) ≡ leb 4 (length behind) = ap (leb (length front + 4)) size ∙ same_test (length front) 4 (length behind) _ refl in
    let two : leb (length front + 2) (length bytes) ≡ leb 2 (length behind) = ap (leb (length front + 2)) size ∙ same_test (length front) 2 (length behind) _ refl in
    rw (
      four,
      two,
      drop-append_seam front behind,
      drop-append-add front behind 2,
      byte_behind front behind,
      get_or-append-add front behind 1 0,
    ) refl

ports_transport : (proto src dst : ℕ) (rest : List ℕ) → (src < 2 ^ 16) × (dst < 2 ^ 16) → (proto == 6 || proto == 17) ≡ true
    → transport_at proto ((big_bytes 2 src ++ big_bytes 2 dst) ++ rest) 0 ≡ record { tp_src = src; tp_dst = dst }
unfolding transport_at
ports_transport proto src dst rest fits test =
    rw (
      test,
      le-leb 4 (length ((big_bytes 2 src ++ big_bytes 2 dst) ++ rest)) (omega arith),
      big_number-reads_back 2 src [] fits.0,
      big_number-reads_back 2 dst [] fits.1,
    ) refl

segment_transport : (s : Segment) (rest : List ℕ) → IsSegment s → transport_at (proto_of s) (spell_segment s ++ rest) 0 ≡ record { tp_src = first_port s; tp_dst = second_of s }
unfolding transport_at
segment_transport (Segment.Tcp src dst) rest fits = ports_transport 6 src dst rest fits refl
segment_transport (Segment.Udp src dst) rest fits = ports_transport 17 src dst rest fits refl
segment_transport (Segment.Icmp kind code) rest fits =
    let first : kind % 256 ≡ kind = mod-eq_of_lt fits.0 in
    let second : code % 256 ≡ code = mod-eq_of_lt fits.1 in
    rw (le-leb 2 (length (spell_segment (Segment.Icmp kind code) ++ rest)) (omega arith), first, second) refl

other_transport : (proto : ℕ) (behind : List ℕ) → proto ≢ 1 → proto ≢ 6 → proto ≢ 17 → transport_at proto behind 0 ≡ no_transport
unfolding transport_at
other_transport proto behind icmp tcp udp = rw (ne_eqb proto 1 icmp, ne_eqb proto 6 tcp, ne_eqb proto 17 udp) refl

whole_transport : (p : Ipv4) (behind : List ℕ) → IsIpv4 p → transport_of (spell_ipv4 p 0 behind) ≡ transport_at p.proto behind 0
unfolding spell_ipv4 transport_of
whole_transport p behind h =
    let packet = spell_ipv4 p 0 behind in
    let flags = h.flags in
    let whole : (p.flags * 0x4000 + 0) % 0x4000 ≡ 0 = omega arith in
    let proto : slice_index packet 9 ≡ p.proto = mod-eq_of_lt h.proto in
    let size : 20 + length p.options ≡ length (spell_ipv4_header p 0) = omega arith in
    rw (
      big_number-reads_back 2 (p.flags * 0x4000 + 0) [] (omega arith),
      whole,
      ipv4_length p 0 behind h,
    ) (ap (λ n. transport_at n packet (20 + length p.options)) proto ∙ ap (transport_at p.proto packet) size ∙ transport_behind p.proto (spell_ipv4_header p 0) behind)

not_zero : (n : ℕ) → 0 < n → (n == 0) ≡ false
not_zero n h = ne_eqb n 0 (λ e. omega (arith, h, e))

fragment_transport : (p : Ipv4) (fragment : ℕ) (behind : List ℕ) → IsIpv4 p → 0 < fragment → fragment < 0x4000
    → transport_of (spell_ipv4 p fragment behind) ≡ no_transport
unfolding spell_ipv4 transport_of
fragment_transport p fragment behind h some below =
    let flags = h.flags in
    let rest : (p.flags * 0x4000 + fragment) % 0x4000 ≡ fragment = omega arith in
    rw (
      big_number-reads_back 2 (p.flags * 0x4000 + fragment) [] (omega arith),
      rest,
      not_zero fragment some,
    ) refl

ipv4_again : (p : Ipv4) (fragment : ℕ) (behind : List ℕ) (t : Transport) → IsIpv4 p → transport_of (spell_ipv4 p fragment behind) ≡ t
    → ipv4_of (spell_ipv4 p fragment behind)
    ≡ record { nw_tos = p.service * 4; nw_proto = p.proto; nw_src = p.src; nw_dst = p.dst; tp_src = t.tp_src; tp_dst = t.tp_dst }
unfolding spell_ipv4 ipv4_of
ipv4_again p fragment behind t h e =
    let packet = spell_ipv4 p fragment behind in
    let a = h.service in
    let b = h.congestion in
    let byte : slice_index packet 1 ≡ p.service * 4 + p.congestion = mod-eq_of_lt (omega arith) in
    let service : (p.service * 4 + p.congestion) / 4 * 4 ≡ p.service * 4 = omega arith in
    let proto : slice_index packet 9 ≡ p.proto = mod-eq_of_lt h.proto in
    rw (
      e,
      le-leb 20 (length packet) (omega arith),
      ipv4_length p fragment behind h,
      le-leb 20 (20 + length p.options) (omega arith),
      byte,
      service,
      proto,
      big_number-reads_back 4 p.src [] h.src,
      big_number-reads_back 4 p.dst [] h.dst,
    ) refl

ipv4_network : (payload : List ℕ) → network_of 0x0800 payload ≡ ipv4_of payload
unfolding network_of
ipv4_network payload = refl

ipv4_type : IsType 0x0800
ipv4_type = record { fits = omega arith; least = refl; no_tag = refl }

pub whole_ipv4 : (in_port : ℕ) (e : Ethernet) (p : Ipv4) (s : Segment) (rest : List ℕ) → IsEthernet e → IsIpv4 p → IsSegment s → p.proto ≡ proto_of s
    → header_of_packet in_port (spell_ethernet e 0x0800 (spell_ipv4 p 0 (spell_segment s ++ rest))) ≡ ipv4_header in_port e p (first_port s) (second_of s)
whole_ipv4 in_port e p s rest h ip fits proto =
    let payload = spell_ipv4 p 0 (spell_segment s ++ rest) in
    header_again in_port e 0x0800 payload _ h ipv4_type (ipv4_network payload ∙ ipv4_again p 0 (spell_segment s ++ rest) _ ip (whole_transport p (spell_segment s ++ rest) ip ∙ ap (λ n. transport_at n (spell_segment s ++ rest) 0) proto ∙ segment_transport s rest fits))

pub other_ipv4 : (in_port : ℕ) (e : Ethernet) (p : Ipv4) (behind : List ℕ) → IsEthernet e → IsIpv4 p → p.proto ≢ 1 → p.proto ≢ 6 → p.proto ≢ 17
    → header_of_packet in_port (spell_ethernet e 0x0800 (spell_ipv4 p 0 behind)) ≡ ipv4_header in_port e p 0 0
other_ipv4 in_port e p behind h ip icmp tcp udp =
    let payload = spell_ipv4 p 0 behind in
    header_again in_port e 0x0800 payload _ h ipv4_type (ipv4_network payload ∙ ipv4_again p 0 behind no_transport ip (whole_transport p behind ip ∙ other_transport p.proto behind icmp tcp udp))

pub fragment_ipv4 : (in_port : ℕ) (e : Ethernet) (p : Ipv4) (fragment : ℕ) (behind : List ℕ) → IsEthernet e → IsIpv4 p → 0 < fragment → fragment < 0x4000
    → header_of_packet in_port (spell_ethernet e 0x0800 (spell_ipv4 p fragment behind)) ≡ ipv4_header in_port e p 0 0
fragment_ipv4 in_port e p fragment behind h ip some below =
    let payload = spell_ipv4 p fragment behind in
    header_again in_port e 0x0800 payload _ h ipv4_type (ipv4_network payload ∙ ipv4_again p fragment behind no_transport ip (fragment_transport p fragment behind ip some below))

-- ---- ARP

arp_again : (a : Arp) (behind : List ℕ) → IsArp a
    → network_of 0x0806 (spell_arp a behind) ≡ record { nw_tos = 0; nw_proto = a.operation % 256; nw_src = a.sender; nw_dst = a.target; tp_src = 0; tp_dst = 0 }
unfolding spell_arp arp_of network_of
arp_again a behind h =
    rw (
      le-leb 28 (length (spell_arp a behind)) (omega arith),
      big_number-reads_back 4 a.sender [] h.sender,
      big_number-reads_back 4 a.target [] h.target,
    ) refl

arp_type : IsType 0x0806
arp_type = record { fits = omega arith; least = refl; no_tag = refl }

pub arp_header_again : (in_port : ℕ) (e : Ethernet) (a : Arp) (behind : List ℕ) → IsEthernet e → IsArp a
    → header_of_packet in_port (spell_ethernet e 0x0806 (spell_arp a behind)) ≡ arp_header in_port e a
arp_header_again in_port e a behind h arp = header_again in_port e 0x0806 (spell_arp a behind) _ h arp_type (arp_again a behind arp)
