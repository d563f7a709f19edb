-- Packets as their fields spell them, layer by layer, and the header of each (OpenFlow 1.0.0, section 3.4 and table 3).
use Rattle.std.specs.Prelude.{◌≡◌, ℕ, ◌+◌, ◌*◌, ◌/◌, ◌%◌, ◌^◌, ◌<◌, ◌≤◌, List, [], ◌++◌, length, Option, Some, None, ⊤}
use Rattle.byteorder.specs.Endian.{big_bytes}
use Rattle.of10_model.specs.Header.{Header}

-- ---- Ethernet

-- an IEEE 802.1Q tag: a priority of 3 bits, a bit that isn't matched, and an id of 12
pub record Tag : Type 0 where
  pub pcp : ℕ
  pub mark : ℕ
  pub id : ℕ

-- a tag's fields lie in their bits
pub record IsTag (t : Tag) : Type 0 where
  pub pcp : t.pcp < 8
  pub mark : t.mark < 2
  pub id : t.id < 0x1000

-- there is no tag, or its fields lie in their bits
abbrev pub IsTagOrNone : Option Tag → Type 0
IsTagOrNone None = ⊤
IsTagOrNone (Some t) = IsTag t

-- how a packet names its type: in place (Ethernet II), or behind a length, in an LLC/SNAP header (IEEE 802.3)
pub data Framing : Type 0 where
  EthernetTwo : Framing
  Snap : ℕ → Framing

-- a length is below 0x0600, the least type
abbrev pub IsFraming : Framing → Type 0
IsFraming EthernetTwo = ⊤
IsFraming (Snap size) = size < 0x0600

-- the two addresses of a packet, its tag where it has one, and how it names its type
pub record Ethernet : Type 0 where
  pub dst : ℕ
  pub src : ℕ
  pub tag : Option Tag
  pub framing : Framing

-- the addresses have 48 bits, and the tag and a length fit their fields
pub record IsEthernet (e : Ethernet) : Type 0 where
  pub dst : e.dst < 2 ^ 48
  pub src : e.src < 2 ^ 48
  pub tag : IsTagOrNone e.tag
  pub framing : IsFraming e.framing

-- a tag is type 0x8100 and two bytes
abbrev pub spell_tag : Option Tag → List ℕ
spell_tag None = []
spell_tag (Some t) = big_bytes 2 0x8100 ++ big_bytes 2 (t.pcp * 0x2000 + t.mark * 0x1000 + t.id)

-- an LLC header, of both access points 0xaa and control 3, and a SNAP header, of organization 0 and the type
abbrev pub spell_snap : ℕ → List ℕ
spell_snap kind = big_bytes 1 0xaa ++ big_bytes 1 0xaa ++ big_bytes 1 3 ++ big_bytes 3 0 ++ big_bytes 2 kind

-- the type alone, or a length and the header with the type
abbrev pub spell_type : Framing → ℕ → List ℕ
spell_type EthernetTwo kind = big_bytes 2 kind
spell_type (Snap size) kind = big_bytes 2 size ++ spell_snap kind

-- a packet: both addresses, the tag, the type and the payload
unfoldable pub spell_ethernet : Ethernet → ℕ → List ℕ → List ℕ
spell_ethernet e kind payload = big_bytes 6 e.dst ++ big_bytes 6 e.src ++ spell_tag e.tag ++ spell_type e.framing kind ++ payload

-- without a tag the VLAN is 0xffff (section 5.2.3)
abbrev pub vlan_of : Option Tag → ℕ
vlan_of None = 0xffff
vlan_of (Some t) = t.id

-- without a tag the priority is 0
abbrev pub pcp_of : Option Tag → ℕ
pcp_of None = 0
pcp_of (Some t) = t.pcp

-- ---- IPv4

-- what begins the payload of an IPv4 packet: two ports of TCP or of UDP, or ICMP's type and code
pub data Segment : Type 0 where
  Tcp : ℕ → ℕ → Segment
  Udp : ℕ → ℕ → Segment
  Icmp : ℕ → ℕ → Segment

-- ports have 16 bits, a type and a code 8
abbrev pub IsSegment : Segment → Type 0
IsSegment (Tcp src dst) = (src < 2 ^ 16) × (dst < 2 ^ 16)
IsSegment (Udp src dst) = (src < 2 ^ 16) × (dst < 2 ^ 16)
IsSegment (Icmp kind code) = (kind < 256) × (code < 256)

-- the protocol's number
abbrev pub proto_of : Segment → ℕ
proto_of (Tcp src dst) = 6
proto_of (Udp src dst) = 17
proto_of (Icmp kind code) = 1

-- the first field: the source port, or ICMP's type
abbrev pub first_port : Segment → ℕ
first_port (Tcp src dst) = src
first_port (Udp src dst) = src
first_port (Icmp kind code) = kind

-- the second field: the destination port, or ICMP's code
abbrev pub second_of : Segment → ℕ
second_of (Tcp src dst) = dst
second_of (Udp src dst) = dst
second_of (Icmp kind code) = code

-- both fields as bytes
abbrev pub spell_segment : Segment → List ℕ
spell_segment (Tcp src dst) = big_bytes 2 src ++ big_bytes 2 dst
spell_segment (Udp src dst) = big_bytes 2 src ++ big_bytes 2 dst
spell_segment (Icmp kind code) = big_bytes 1 kind ++ big_bytes 1 code

-- an IPv4 header: six bits of service and two that aren't matched, two flags that say nothing of fragments, the protocol,
-- the addresses, the bytes of the options, and four fields that aren't read, the total length among them
pub record Ipv4 : Type 0 where
  pub service : ℕ
  pub congestion : ℕ
  pub total_len : ℕ
  pub ident : ℕ
  pub flags : ℕ
  pub ttl : ℕ
  pub proto : ℕ
  pub checksum : ℕ
  pub src : ℕ
  pub dst : ℕ
  pub options : List ℕ

-- the fields that are read lie in their bits, and the options are whole words of four bytes, ten words at most
pub record IsIpv4 (p : Ipv4) : Type 0 where
  pub service : p.service < 64
  pub congestion : p.congestion < 4
  pub flags : p.flags < 4
  pub proto : p.proto < 256
  pub src : p.src < 2 ^ 32
  pub dst : p.dst < 2 ^ 32
  pub words : length p.options % 4 ≡ 0
  pub most : length p.options ≤ 40

-- how many words of four bytes the header has: five, and those of the options
abbrev pub header_words : Ipv4 → ℕ
header_words p = 5 + length p.options / 4

-- 20 bytes, of which the first has the version and the header's length in words, and then the options; the fragment is the
-- flag for more and the offset, 14 bits
abbrev pub spell_ipv4_header : Ipv4 → ℕ → List ℕ
spell_ipv4_header p fragment =
    big_bytes 1 (4 * 16 + header_words p) ++ big_bytes 1 (p.service * 4 + p.congestion) ++ big_bytes 2 p.total_len
    ++ big_bytes 2 p.ident ++ big_bytes 2 (p.flags * 0x4000 + fragment)
    ++ big_bytes 1 p.ttl ++ big_bytes 1 p.proto ++ big_bytes 2 p.checksum
    ++ big_bytes 4 p.src ++ big_bytes 4 p.dst ++ p.options

-- the header and what is behind it
unfoldable pub spell_ipv4 : Ipv4 → ℕ → List ℕ → List ℕ
spell_ipv4 p fragment behind = spell_ipv4_header p fragment ++ behind

-- the header of an IPv4 packet with two transport fields
abbrev pub ipv4_header : ℕ → Ethernet → Ipv4 → ℕ → ℕ → Header
ipv4_header in_port e p tp_src tp_dst = record {
  in_port = in_port;
  dl_src = e.src;
  dl_dst = e.dst;
  dl_vlan = vlan_of e.tag;
  dl_vlan_pcp = pcp_of e.tag;
  dl_type = 0x0800;
  nw_tos = p.service * 4;
  nw_proto = p.proto;
  nw_src = p.src;
  nw_dst = p.dst;
  tp_src = tp_src;
  tp_dst = tp_dst;
}

-- ---- ARP

-- an ARP packet for Ethernet and IPv4: the operation, and the hardware and protocol addresses of its sender and its target
pub record Arp : Type 0 where
  pub operation : ℕ
  pub sender_hardware : ℕ
  pub sender : ℕ
  pub target_hardware : ℕ
  pub target : ℕ

-- the protocol addresses have 32 bits
pub record IsArp (a : Arp) : Type 0 where
  pub sender : a.sender < 2 ^ 32
  pub target : a.target < 2 ^ 32

-- the 28 bytes of an ARP packet and what is behind them
unfoldable pub spell_arp : Arp → List ℕ → List ℕ
spell_arp a behind =
    big_bytes 2 1 ++ big_bytes 2 0x0800 ++ big_bytes 1 6 ++ big_bytes 1 4 ++ big_bytes 2 a.operation
    ++ big_bytes 6 a.sender_hardware ++ big_bytes 4 a.sender ++ big_bytes 6 a.target_hardware ++ big_bytes 4 a.target
    ++ behind

-- the header of an ARP packet: the protocol is the low eight bits of its operation
abbrev pub arp_header : ℕ → Ethernet → Arp → Header
arp_header in_port e a = record {
  in_port = in_port;
  dl_src = e.src;
  dl_dst = e.dst;
  dl_vlan = vlan_of e.tag;
  dl_vlan_pcp = pcp_of e.tag;
  dl_type = 0x0806;
  nw_tos = 0;
  nw_proto = a.operation % 256;
  nw_src = a.sender;
  nw_dst = a.target;
  tp_src = 0;
  tp_dst = 0;
}
