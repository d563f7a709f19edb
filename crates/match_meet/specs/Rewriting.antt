-- What actions make of a header, and of a match (OpenFlow 1.0.0, sections 3.3 and 5.2.4).
use Rattle.std.specs.Prelude.{ℕ, ◌==◌, ◌&&◌, ◌||◌, ◌*◌, ◌/◌, ◌%◌, if◌then◌else◌, Bool, Option, Some}
use Rattle.of10_model.specs.declared.pattern.Prefix.{Prefix}
use Rattle.of10_model.specs.declared.pattern.Pattern.{Pattern}
use Rattle.of10_model.specs.Header.{Header}
use Rattle.of10_model.specs.Normal.{is_value, is_exact, has_vlan, meaningless}
use Rattle.of10_action.specs.declared.action.Action.{Action}
use Rattle.of10_action.specs.declared.action.Action.TheVariants.{Output, SetVlanVid, SetVlanPcp, StripVlan, SetDlSrc, SetDlDst, SetNwSrc, SetNwDst, SetNwTos, SetTpSrc, SetTpDst, Enqueue}

-- ---- headers

-- a packet without a VLAN tag
abbrev pub is_untagged : Header → Bool
is_untagged h = h.dl_vlan == 0xffff

-- an IPv4 packet
abbrev pub is_ipv4 : Header → Bool
is_ipv4 h = h.dl_type == 0x0800

-- a packet with ports that actions set: IPv4 with TCP or UDP
abbrev pub is_tcp_or_udp : Header → Bool
is_tcp_or_udp h = h.dl_type == 0x0800 && (h.nw_proto == 6 || h.nw_proto == 17)

-- the header after an action: a tag is added where there is none, network fields change in IPv4 and ports in TCP and UDP alone;
-- a VLAN number counts by its low 12 bits, a priority by its low three, and a type of service by its high six
abbrev pub rewritten : Header → Action → Header
rewritten h (Output port max_len) = h
rewritten h (SetVlanVid vlan) = record h { dl_vlan = vlan % 4096; dl_vlan_pcp = if is_untagged h then 0 else h.dl_vlan_pcp }
rewritten h (SetVlanPcp priority) = record h { dl_vlan = if is_untagged h then 0 else h.dl_vlan; dl_vlan_pcp = priority % 8 }
rewritten h StripVlan = record h { dl_vlan = 0xffff; dl_vlan_pcp = 0 }
rewritten h (SetDlSrc address) = record h { dl_src = address }
rewritten h (SetDlDst address) = record h { dl_dst = address }
rewritten h (SetNwSrc address) = if is_ipv4 h then record h { nw_src = address } else h
rewritten h (SetNwDst address) = if is_ipv4 h then record h { nw_dst = address } else h
rewritten h (SetNwTos service) = if is_ipv4 h then record h { nw_tos = service / 4 * 4 } else h
rewritten h (SetTpSrc port) = if is_tcp_or_udp h then record h { tp_src = port } else h
rewritten h (SetTpDst port) = if is_tcp_or_udp h then record h { tp_dst = port } else h
rewritten h (Enqueue port queue) = h

-- ---- matches

-- an address given whole
abbrev pub whole : ℕ → Option Prefix
whole address = Some (record { bits = 32; value = address })

-- a match of packets with ports that actions set
abbrev pub names_tcp_or_udp : Pattern → Bool
names_tcp_or_udp m = is_value 0x0800 m.dl_type && (is_value 6 m.nw_proto || is_value 17 m.nw_proto)

-- the cover of what an action makes of a match's headers: its constraints change as the fields do (this proxy's own rule)
abbrev pub cover_of : Pattern → Action → Pattern
cover_of m (Output port max_len) = m
cover_of m (SetVlanVid vlan) =
    record m { dl_vlan = Some (vlan % 4096); dl_vlan_pcp = if is_value 0xffff m.dl_vlan then Some 0 else m.dl_vlan_pcp }
cover_of m (SetVlanPcp priority) =
    if is_value 0xffff m.dl_vlan then record m { dl_vlan = Some 0; dl_vlan_pcp = Some (priority % 8) }
    else (if has_vlan m.dl_vlan then record m { dl_vlan_pcp = Some (priority % 8) } else m)
cover_of m StripVlan = record m { dl_vlan = Some 0xffff; dl_vlan_pcp = meaningless (is_exact m) }
cover_of m (SetDlSrc address) = record m { dl_src = Some address }
cover_of m (SetDlDst address) = record m { dl_dst = Some address }
cover_of m (SetNwSrc address) = if is_value 0x0800 m.dl_type then record m { nw_src = whole address } else m
cover_of m (SetNwDst address) = if is_value 0x0800 m.dl_type then record m { nw_dst = whole address } else m
cover_of m (SetNwTos service) = if is_value 0x0800 m.dl_type then record m { nw_tos = Some (service / 4 * 4) } else m
cover_of m (SetTpSrc port) = if names_tcp_or_udp m then record m { tp_src = Some port } else m
cover_of m (SetTpDst port) = if names_tcp_or_udp m then record m { tp_dst = Some port } else m
cover_of m (Enqueue port queue) = m
