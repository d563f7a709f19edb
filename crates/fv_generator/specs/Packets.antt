-- The packets that are made, and the match of some of them.
use Rattle.std.specs.Prelude.{ℕ, List, ◌++◌, Some}
use Rattle.byteorder.specs.Endian.{big_bytes}
use Rattle.of10_model.specs.declared.pattern.Pattern.{Pattern}
use Rattle.of10_model.specs.declared.protocol.TheConstants.{IPV4, TCP}
use Rattle.of10_model.specs.Exact.{all_free}

-- from the hardware address 1 to the address 2, with IPv4
abbrev pub ethernet_head : List ℕ
ethernet_head = big_bytes 6 2 ++ big_bytes 6 1 ++ big_bytes 2 IPV4

-- a header of 20 bytes, 40 bytes in all, 64 hops, TCP, no checksum, from 10.0.0.1 to 10.0.0.2
abbrev pub internet_head : List ℕ
internet_head =
    big_bytes 2 0x4500 ++ big_bytes 2 40 ++ big_bytes 4 0 ++ big_bytes 1 64 ++ big_bytes 1 TCP ++ big_bytes 2 0
    ++ big_bytes 4 0x0a000001 ++ big_bytes 4 0x0a000002

-- from port 1024 to a port, a SYN without data: a header of 20 bytes, all else zero
abbrev pub transport_head : ℕ → List ℕ
transport_head port = big_bytes 2 1024 ++ big_bytes 2 port ++ big_bytes 8 0 ++ big_bytes 2 0x5002 ++ big_bytes 6 0

-- a TCP packet to a port, of 54 bytes (this proxy's own rule)
unfoldable pub packet_to : ℕ → List ℕ
packet_to port = ethernet_head ++ internet_head ++ transport_head port

-- TCP over IPv4, and nothing else
abbrev pub tcp : Pattern
tcp = record all_free { dl_type = Some IPV4; nw_proto = Some TCP }

-- the TCP packets from a port
abbrev pub tcp_from : ℕ → Pattern
tcp_from port = record tcp { tp_src = Some port }

-- the TCP packets to a port
abbrev pub tcp_to : ℕ → Pattern
tcp_to port = record tcp { tp_dst = Some port }
