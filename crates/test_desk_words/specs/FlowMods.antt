-- Worked examples of flow-mods (OpenFlow 1.0.0, section 5.3.3): what alice has the switch sent, and what she is sent.
use Rattle.std.specs.Prelude.{ℕ, List, [], ◌∷◌, ◌++◌, codes, Some}
use Rattle.of10_model.specs.declared.pattern.Pattern.{Pattern}
use Rattle.of10_model.specs.Exact.{all_free}
use Rattle.flowspace.specs.Policies.{PolicyView}
use Rattle.recording.specs.Recordings.{switch_bytes}
use Rattle.test_desk_words.specs.Examples.{policy, slice_named, written_rule, record_told, alice_sends, ReportFollows}

-- every header, and TCP packets for port 80 and for port 22
abbrev pub all_headers : List ℕ
all_headers = codes "003820ff000000000000000000000000000000000000000000000000000000000000000000000000"

abbrev pub to_80 : List ℕ
to_80 = codes "0038204f000000000000000000000000000000000000080000060000000000000000000000000050"

abbrev pub to_22 : List ℕ
to_22 = codes "0038204f000000000000000000000000000000000000080000060000000000000000000000000016"

-- an ADD of priority 10 that goes after 60 seconds without a packet, without a buffer, and outputs to port 2
abbrev pub add_fields : List ℕ
add_fields = codes "00000000000000000000003c0000000affffffffffff"

abbrev pub output_2 : List ℕ
output_2 = codes "0000000800020000"

-- a DELETE of entries of any priority and output
abbrev pub delete_fields : List ℕ
delete_fields = codes "00000000000000000003000000000000ffffffffffff0000"

-- alice's ADD of every header is sent for what she may write of it, and so is her DELETE
abbrev pub FlowModIsCut : Type 0
FlowModIsCut = ReportFollows policy
    (alice_sends (codes "010e00500000002a" ++ all_headers ++ add_fields ++ codes "0000" ++ output_2)
    ∷ alice_sends (codes "010e00480000002b" ++ all_headers ++ delete_fields) ∷ [])
    (codes "4 0 lane 010e005000000000" ++ to_80 ++ add_fields ++ codes "0001" ++ output_2
    ++ codes "\n5 0 lane 010e004800000001" ++ to_80 ++ delete_fields ++ codes "\nend 6\n")

-- as much of the fields of such an ADD as an error carries back
abbrev pub quoted_fields : List ℕ
quoted_fields = codes "00000000000000000000003c0000000a"

-- her ADD for bob's port is refused: FLOW_MOD_FAILED, EPERM; of her DELETE for it nothing follows
abbrev pub FlowModIsRefused : Type 0
FlowModIsRefused = ReportFollows policy
    (alice_sends (codes "010e00500000002a" ++ to_22 ++ add_fields ++ codes "0000" ++ output_2)
    ∷ alice_sends (codes "010e00480000002b" ++ to_22 ++ delete_fields) ∷ [])
    (codes "4 0 to alice 0101004c0000002a00030002010e00500000002a" ++ to_22 ++ quoted_fields ++ codes "\nend 6\n")

-- the first error for it reaches her under her own transaction id, the second doesn't: FLOW_MOD_FAILED, ALL_TABLES_FULL
abbrev pub ErrorIsToldOnce : Type 0
ErrorIsToldOnce = ReportFollows policy
    (alice_sends (codes "010e00500000002a" ++ all_headers ++ add_fields ++ codes "0000" ++ output_2)
    ∷ record_told switch_bytes 0 (codes "0101000c0000000000030000") ∷ record_told switch_bytes 0 (codes "0101000c0000000000030000") ∷ [])
    (codes "4 0 lane 010e005000000000" ++ to_80 ++ add_fields ++ codes "0001" ++ output_2
    ++ codes "\n5 0 to alice 0101004c0000002a00030000010e00500000002a" ++ all_headers ++ quoted_fields ++ codes "\nend 7\n")

-- ---- pieces

-- IP packets, those that come from 10/8, and those that go to an address of so many bits
abbrev pub ip : Pattern
ip = record all_free { dl_type = Some 0x0800 }

abbrev pub from_10 : Pattern
from_10 = record ip { nw_src = Some (record { bits = 8; value = 0x0a000000 }) }

abbrev pub to_net : ℕ → ℕ → Pattern
to_net bits value = record ip { nw_dst = Some (record { bits = bits; value = value }) }

-- alice writes IP packets to 10/8, those from 10/8, and TCP packets to 10/8
abbrev pub three_rules : PolicyView
three_rules = record {
  slices = slice_named (codes "alice") ∷ slice_named (codes "bob") ∷ [];
  rules = written_rule 100 0 (to_net 8 0x0a000000) ∷ written_rule 90 0 from_10 ∷ written_rule 80 0 (record (to_net 8 0x0a000000) { nw_proto = Some 6 }) ∷ [];
  swaps = [];
}

-- TCP packets to 10.1/16, and those of them that come from 10/8
abbrev pub tcp_to_net : List ℕ
tcp_to_net = codes "003420cf000000000000000000000000000000000000080000060000000000000a01000000000000"

abbrev pub tcp_from_10_to_net : List ℕ
tcp_from_10_to_net = codes "003418cf0000000000000000000000000000000000000800000600000a0000000a01000000000000"

-- her ADD for TCP packets to 10.1/16 has two pieces, itself and what of it comes from 10/8: the third rule has no more than the first
abbrev pub FlowModHasTwoPieces : Type 0
FlowModHasTwoPieces = ReportFollows three_rules
    (alice_sends (codes "010e00500000002a" ++ tcp_to_net ++ add_fields ++ codes "0000" ++ output_2) ∷ [])
    (codes "4 0 lane 010e005000000000" ++ tcp_to_net ++ add_fields ++ codes "0001" ++ output_2
    ++ codes "\n4 0 lane 010e005000000000" ++ tcp_from_10_to_net ++ add_fields ++ codes "0001" ++ output_2
    ++ codes "\nend 5\n")

-- ---- actions

-- port 2, to which nothing is flooded
abbrev pub quiet_port_2 : List ℕ
quiet_port_2 = codes "000200000000000000000000000000000000000000000000000000100000000000000000000000000000000000000000"

-- an output to FLOOD is sent as outputs to ports 1 and 3, and one to ALL to port 2 too
abbrev pub FloodIsSpread : Type 0
FloodIsSpread = ReportFollows policy
    (record_told switch_bytes 0 (codes "010c0040000000090200000000000000" ++ quiet_port_2)
    ∷ alice_sends (codes "010e00500000002a" ++ all_headers ++ add_fields ++ codes "000000000008fffb0000")
    ∷ alice_sends (codes "010e00500000002b" ++ all_headers ++ add_fields ++ codes "000000000008fffc0000") ∷ [])
    (codes "4 0 to alice 010c0040000000000200000000000000" ++ quiet_port_2 ++ codes "\n4 0 to bob 010c0040000000000200000000000000" ++ quiet_port_2
    ++ codes "\n5 0 lane 010e005800000000" ++ to_80 ++ add_fields ++ codes "000100000008000100000000000800030000"
    ++ codes "\n6 0 lane 010e006000000001" ++ to_80 ++ add_fields ++ codes "00010000000800010000" ++ output_2 ++ codes "0000000800030000" ++ codes "\nend 7\n")

-- alice writes IP packets to 10.1/16, and bob those to 10.2/16
abbrev pub two_nets : PolicyView
two_nets = record {
  slices = slice_named (codes "alice") ∷ slice_named (codes "bob") ∷ [];
  rules = written_rule 100 0 (to_net 16 0x0a010000) ∷ written_rule 50 1 (to_net 16 0x0a020000) ∷ [];
  swaps = [];
}

-- IP packets, and those to 10.1/16
abbrev pub all_ip : List ℕ
all_ip = codes "003820ef000000000000000000000000000000000000080000000000000000000000000000000000"

abbrev pub ip_to_alice : List ℕ
ip_to_alice = codes "003420ef000000000000000000000000000000000000080000000000000000000a01000000000000"

-- her packets may be sent with another address of hers; with one of bob's they may not go to port 2, and not to CONTROLLER either: BAD_ACTION, EPERM; and to NORMAL they may not go: BAD_ACTION, BAD_OUT_PORT
abbrev pub ActionsAreHeldToTheSlice : Type 0
ActionsAreHeldToTheSlice = ReportFollows two_nets
    (alice_sends (codes "010e00580000002a" ++ all_ip ++ add_fields ++ codes "0000000700080a020001" ++ output_2)
    ∷ alice_sends (codes "010e00580000002b" ++ all_ip ++ add_fields ++ codes "0000000700080a02000100000008fffd0000")
    ∷ alice_sends (codes "010e00580000002c" ++ all_ip ++ add_fields ++ codes "0000000700080a010909" ++ output_2)
    ∷ alice_sends (codes "010e00500000002d" ++ all_ip ++ add_fields ++ codes "000000000008fffa0000") ∷ [])
    (codes "4 0 to alice 0101004c0000002a00020006010e00580000002a" ++ all_ip ++ quoted_fields
    ++ codes "\n5 0 to alice 0101004c0000002b00020006010e00580000002b" ++ all_ip ++ quoted_fields
    ++ codes "\n6 0 lane 010e005800000000" ++ ip_to_alice ++ add_fields ++ codes "0001000700080a010909" ++ output_2
    ++ codes "\n7 0 to alice 0101004c0000002d00020004010e00500000002d" ++ all_ip ++ quoted_fields ++ codes "\nend 8\n")

-- ---- the book

-- alice may book one entry
abbrev pub narrow : PolicyView
narrow = record policy { slices = record (slice_named (codes "alice")) { quota = 1 } ∷ slice_named (codes "bob") ∷ [] }

-- her ADD of every header with another priority and other flags
abbrev pub add_at : List ℕ → List ℕ → List ℕ → List ℕ
add_at xid priority flags = codes "010e0050" ++ xid ++ all_headers ++ codes "00000000000000000000003c0000" ++ priority ++ codes "ffffffffffff" ++ flags ++ output_2

-- what is sent for it
abbrev pub sent_at : List ℕ → List ℕ → List ℕ
sent_at xid priority = codes "010e0050" ++ xid ++ to_80 ++ codes "00000000000000000000003c0000" ++ priority ++ codes "ffffffffffff0001" ++ output_2

-- FLOW_REMOVED for the TCP packets for port 80, of priority 10, under a transaction id
abbrev pub removed_80 : List ℕ → List ℕ
removed_80 xid = codes "010b0058" ++ xid ++ to_80 ++ codes "0000000000000000000a00000000000000000000003c000000000000000000000000000000000000"

-- a second pair is refused: FLOW_MOD_FAILED, ALL_TABLES_FULL. The pair that is booked may be added again. Once the switch says that the pair's entry was removed, which is reported to alice, another is booked
abbrev pub QuotaHolds : Type 0
QuotaHolds = ReportFollows narrow
    (alice_sends (add_at (codes "0000002a") (codes "000a") (codes "0000"))
    ∷ alice_sends (add_at (codes "0000002b") (codes "000b") (codes "0000"))
    ∷ alice_sends (add_at (codes "0000002c") (codes "000a") (codes "0001"))
    ∷ record_told switch_bytes 0 (removed_80 (codes "00000009"))
    ∷ alice_sends (add_at (codes "0000002d") (codes "000b") (codes "0000")) ∷ [])
    (codes "4 0 lane " ++ sent_at (codes "00000000") (codes "000a")
    ++ codes "\n5 0 to alice 0101004c0000002b00030000010e00500000002b" ++ all_headers ++ codes "00000000000000000000003c0000000b"
    ++ codes "\n6 0 lane " ++ sent_at (codes "00000001") (codes "000a")
    ++ codes "\n7 0 to alice " ++ removed_80 (codes "00000000")
    ++ codes "\n8 0 lane " ++ sent_at (codes "00000002") (codes "000b") ++ codes "\nend 9\n")

-- an ADD that asks for CHECK_OVERLAP is sent without it, and refused where it overlaps: FLOW_MOD_FAILED, OVERLAP
abbrev pub OverlapIsRefused : Type 0
OverlapIsRefused = ReportFollows policy
    (alice_sends (add_at (codes "0000002a") (codes "000a") (codes "0002")) ∷ alice_sends (add_at (codes "0000002b") (codes "000a") (codes "0002")) ∷ [])
    (codes "4 0 lane " ++ sent_at (codes "00000000") (codes "000a")
    ++ codes "\n5 0 to alice 0101004c0000002b00030001010e00500000002b" ++ all_headers ++ quoted_fields ++ codes "\nend 6\n")
