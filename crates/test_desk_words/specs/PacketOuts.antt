-- Worked examples of packets that the switch holds (OpenFlow 1.0.0, section 5.4.1), of packet-outs (section 5.3.6), and of probes: what alice and bob are sent, and what the switch is sent.
use Rattle.std.specs.Prelude.{ℕ, List, [], ◌∷◌, ◌++◌, codes}
use Rattle.recording.specs.Recordings.{Told, switch_bytes, slice_bytes}
use Rattle.test_desk_words.specs.Examples.{policy, record_told, alice_sends, ReportFollows}
use Rattle.test_desk_words.specs.FlowMods.{output_2}

-- TCP packets for port 80 and for port 22
abbrev pub packet_80 : List ℕ
packet_80 = codes "00000000000200000000000108004500002800000000400600000a0000010a0000020400005000000000000000005002000000000000"

abbrev pub packet_22 : List ℕ
packet_22 = codes "00000000000200000000000108004500002800000000400600000a0000010a0000020400001600000000000000005002000000000000"

-- the switch hands up a packet of 54 bytes from port 1 under a number; and so it is sent to a slice
abbrev pub handed_up : List ℕ → List ℕ → List ℕ
handed_up number packet = codes "010a004800000000" ++ number ++ codes "003600010000" ++ packet

-- what uses the packet of a number: an output to port 2
abbrev pub use_packet : List ℕ → List ℕ → List ℕ
use_packet xid number = codes "010d0018" ++ xid ++ number ++ codes "00010008" ++ output_2

-- bob sends a message
abbrev pub bob_sends : List ℕ → Told
bob_sends text = record_told slice_bytes 1 text

-- the switch uses its number 7 again: alice's packet is lost, BAD_REQUEST, BUFFER_UNKNOWN; bob's is there
abbrev pub ReusedPacketIsLost : Type 0
ReusedPacketIsLost = ReportFollows policy
    (record_told switch_bytes 0 (handed_up (codes "00000007") packet_80)
    ∷ record_told switch_bytes 0 (handed_up (codes "00000007") packet_22)
    ∷ alice_sends (use_packet (codes "0000002b") (codes "00000000"))
    ∷ bob_sends (use_packet (codes "0000002b") (codes "00000000")) ∷ [])
    (codes "4 0 to alice " ++ handed_up (codes "00000000") packet_80
    ++ codes "\n5 0 to bob " ++ handed_up (codes "00000000") packet_22
    ++ codes "\n6 0 to alice 010100240000002b00010008" ++ use_packet (codes "0000002b") (codes "00000000")
    ++ codes "\n7 0 lane " ++ use_packet (codes "01000000") (codes "00000007") ++ codes "\nend 8\n")

-- a packet is used once: BAD_REQUEST, BUFFER_UNKNOWN
abbrev pub PacketIsUsedOnce : Type 0
PacketIsUsedOnce = ReportFollows policy
    (record_told switch_bytes 0 (handed_up (codes "00000007") packet_80)
    ∷ alice_sends (use_packet (codes "0000002b") (codes "00000000"))
    ∷ alice_sends (use_packet (codes "0000002c") (codes "00000000")) ∷ [])
    (codes "4 0 to alice " ++ handed_up (codes "00000000") packet_80
    ++ codes "\n5 0 lane " ++ use_packet (codes "00000000") (codes "00000007")
    ++ codes "\n6 0 to alice 010100240000002c00010008" ++ use_packet (codes "0000002c") (codes "00000000") ++ codes "\nend 7\n")

-- a packet that comes along, by a port, with actions
abbrev pub send_packet : List ℕ → List ℕ → List ℕ → List ℕ
send_packet xid actions packet = xid ++ codes "ffffffffffff" ++ actions ++ packet

-- alice's packet for bob's port is refused, BAD_REQUEST, EPERM; so is hers that becomes one, BAD_ACTION, EPERM; hers is sent
abbrev pub PacketOutIsHeldToTheSlice : Type 0
PacketOutIsHeldToTheSlice = ReportFollows policy
    (alice_sends (codes "010d004e" ++ send_packet (codes "0000002a") (codes "0008" ++ output_2) packet_22)
    ∷ alice_sends (codes "010d0056" ++ send_packet (codes "0000002b") (codes "0010000a000800160000" ++ output_2) packet_80)
    ∷ alice_sends (codes "010d004e" ++ send_packet (codes "0000002c") (codes "0008" ++ output_2) packet_80) ∷ [])
    (codes "4 0 to alice 0101004c0000002a00010005010d004e" ++ send_packet (codes "0000002a") (codes "0008" ++ output_2) (codes "00000000000200000000000108004500002800000000400600000a0000010a000002040000160000")
    ++ codes "\n5 0 to alice 0101004c0000002b00020006010d0056" ++ send_packet (codes "0000002b") (codes "0010000a000800160000" ++ output_2) (codes "00000000000200000000000108004500002800000000400600000a0000010a00")
    ++ codes "\n6 0 lane 010d004e" ++ send_packet (codes "00000000") (codes "0008" ++ output_2) packet_80 ++ codes "\nend 7\n")

-- an LLDP packet of 16 bytes, and the 36 zero bytes with which it is filled
abbrev pub probe : List ℕ
probe = codes "0180c200000e00000000000188cc0000"

abbrev pub filling : List ℕ
filling = codes "000000000000000000000000000000000000000000000000000000000000000000000000"

-- a probe of each slice is sent with its mark; one of alice's that comes back reaches her alone, without the mark and without a number
abbrev pub ProbeComesBack : Type 0
ProbeComesBack = ReportFollows policy
    (alice_sends (codes "010d0028" ++ send_packet (codes "0000002a") (codes "0008" ++ output_2) probe)
    ∷ bob_sends (codes "010d0028" ++ send_packet (codes "0000002a") (codes "0008" ++ output_2) probe)
    ∷ record_told switch_bytes 0 (codes "010a004e0000000000000009003c00010000" ++ probe ++ filling ++ codes "4656534c00000000") ∷ [])
    (codes "4 0 lane 010d0054" ++ send_packet (codes "00000000") (codes "0008" ++ output_2) probe ++ filling ++ codes "4656534c00000000"
    ++ codes "\n5 0 lane 010d0054" ++ send_packet (codes "01000000") (codes "0008" ++ output_2) probe ++ filling ++ codes "4656534c01000000"
    ++ codes "\n6 0 to alice 010a004600000000ffffffff003400010000" ++ probe ++ filling ++ codes "\nend 7\n")
