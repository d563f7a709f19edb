-- Worked examples of barriers (OpenFlow 1.0.0, section 5.3.7), of questions for queues (section 5.3.4) and of statistics (section 5.3.5): what the switch is asked for alice, and what she is sent.
use Rattle.std.specs.Prelude.{ℕ, List, [], ◌∷◌, ◌++◌, codes}
use Rattle.recording.specs.Recordings.{Told, switch_bytes}
use Rattle.test_desk_words.specs.Examples.{policy, record_told, alice_sends, ReportFollows}
use Rattle.test_desk_words.specs.FlowMods.{all_headers, to_80, to_22, output_2}

-- the switch sends a message
abbrev pub switch_sends : List ℕ → Told
switch_sends text = record_told switch_bytes 0 text

-- her barrier is sent on under a transaction id of its own; the first reply to it comes back under hers, the second doesn't
abbrev pub BarrierComesBack : Type 0
BarrierComesBack = ReportFollows policy
    (alice_sends (codes "011200080000002a") ∷ switch_sends (codes "0113000800000000") ∷ switch_sends (codes "0113000800000000") ∷ [])
    (codes "4 0 lane 0112000800000000\n5 0 to alice 011300080000002a\nend 7\n")

-- so is her question for the queues of port 1, and the first reply comes back as it is
abbrev pub QueuesComeBack : Type 0
QueuesComeBack = ReportFollows policy
    (alice_sends (codes "0114000c0000002a00010000") ∷ switch_sends (codes "01150010000000000001000000000000") ∷ switch_sends (codes "01150010000000000001000000000000") ∷ [])
    (codes "4 0 lane 0114000c0000000000010000\n5 0 to alice 011500100000002a0001000000000000\nend 7\n")

-- between a flow's match and its counts stand its age, priority, timeouts and cookie
abbrev pub quiet_fields : List ℕ
quiet_fields = codes "00000000000000000000000000000000000000000000000000000000"

-- a flow without actions: its match, and how many packets and bytes it had
abbrev pub flow : List ℕ → List ℕ → List ℕ → List ℕ
flow match packets bytes = codes "00580000" ++ match ++ quiet_fields ++ packets ++ bytes

-- one that outputs to port 2 and had no packets
abbrev pub flow_to_2 : List ℕ → List ℕ
flow_to_2 match = codes "00600000" ++ match ++ quiet_fields ++ codes "00000000000000000000000000000000" ++ output_2

-- what is asked of the flows of every header, in all tables and to any port
abbrev pub every_flow : List ℕ
every_flow = all_headers ++ codes "ff00ffff"

-- flows come in two parts, two of them hers and one bob's: she is sent hers in one reply
abbrev pub OwnFlowsAreTold : Type 0
OwnFlowsAreTold = ReportFollows policy
    (alice_sends (codes "011000380000002a00010000" ++ every_flow)
    ∷ switch_sends (codes "011100c40000000000010001" ++ flow_to_2 to_80 ++ flow to_22 (codes "0000000000000001") (codes "0000000000000040"))
    ∷ switch_sends (codes "0111006c0000000000010000" ++ flow_to_2 to_80) ∷ [])
    (codes "4 0 lane 011000380000000000010000" ++ every_flow
    ++ codes "\n6 0 to alice 011100cc0000002a00010000" ++ flow_to_2 to_80 ++ flow_to_2 to_80 ++ codes "\nend 7\n")

-- a sum is asked for as single flows: of 2^64 - 1 packets and 2 there is 1, in 2 flows
abbrev pub FlowsAreSummed : Type 0
FlowsAreSummed = ReportFollows policy
    (alice_sends (codes "011000380000002a00020000" ++ every_flow)
    ∷ switch_sends (codes "011100bc0000000000010000" ++ flow to_80 (codes "ffffffffffffffff") (codes "0000000000000400") ++ flow to_80 (codes "0000000000000002") (codes "0000000000000080")) ∷ [])
    (codes "4 0 lane 011000380000000000010000" ++ every_flow
    ++ codes "\n5 0 to alice 011100240000002a00020000000000000000000100000000000004800000000200000000\nend 6\n")

-- her one table has room for as many entries as her quota of 1,024; the switch isn't asked
abbrev pub TableIsTold : Type 0
TableIsTold = ReportFollows policy
    (alice_sends (codes "0110000c0000002a00030000") ∷ [])
    (codes "4 0 to alice 0111004c0000002a0003000000000000666c6f777669736f720000000000000000000000000000000000000000000000003fffff000004000000000000000000000000000000000000000000\nend 5\n")
