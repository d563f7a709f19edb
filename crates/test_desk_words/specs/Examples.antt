-- Worked examples: what the definitions answer to one switch and two slices, alice and bob, who write TCP packets for port 80 and for port 22.
use Rattle.std.specs.Prelude.{ℕ, ◌≡◌, ◌+◌, ◌-◌, ◌*◌, leb, if◌then◌else◌, List, [], ◌∷◌, ◌++◌, codes, Some, None}
use Rattle.of10_model.specs.declared.pattern.Pattern.{Pattern}
use Rattle.flowspace.specs.declared.slices.Slice.{Slice}
use Rattle.flowspace.specs.declared.rules.Rule.{Rule}
use Rattle.flowspace.specs.Policies.{PolicyView}
use Rattle.recording.specs.Recordings.{Told, switch_up, switch_bytes, slice_up, slice_bytes}
use Rattle.desk_words.specs.Reports.{report}

-- ---- bytes in hex

abbrev pub digit_of : ℕ → ℕ
digit_of code = if leb 97 code then code - 87 else code - 48

-- the bytes that lower-case hex digits say
abbrev pub unhex : List ℕ → List ℕ
unhex [] = []
unhex (high ∷ []) = []
unhex (high ∷ low ∷ rest) = (16 * digit_of high + digit_of low) ∷ unhex rest

-- ---- the policy

abbrev pub slice_named : List ℕ → Slice
slice_named name = record { name = name; controller = codes "127.0.0.1:6633"; rate = 1000; burst = 1000; quota = 1024 }

-- TCP packets for a port
abbrev pub tcp_for : ℕ → Pattern
tcp_for port = record {
  in_port = None;
  dl_src = None;
  dl_dst = None;
  dl_vlan = None;
  dl_vlan_pcp = None;
  dl_type = Some 0x0800;
  nw_tos = None;
  nw_proto = Some 6;
  nw_src = None;
  nw_dst = None;
  tp_src = None;
  tp_dst = Some port;
}

-- a rule for all switches that a slice writes
abbrev pub written_rule : ℕ → ℕ → Pattern → Rule
written_rule priority slot pattern = record { switch = None; priority = priority; pattern = pattern; writer = Some slot; readers = 0 }

abbrev pub policy : PolicyView
policy = record { slices = slice_named (codes "alice") ∷ slice_named (codes "bob") ∷ []; rules = written_rule 100 0 (tcp_for 80) ∷ written_rule 50 1 (tcp_for 22) ∷ []; swaps = [] }

-- ---- the recording

-- a record of switch 0
abbrev pub record_told : ℕ → ℕ → List ℕ → Told
record_told kind slot text = record { kind = kind; switch = 0; slot = slot; moment = 0; bytes = unhex text }

-- a switch with three ports and its own says what it is, and alice and bob connect
abbrev pub opened : List Told
opened =
    record_told switch_up 0 []
    ∷ record_told switch_bytes 0 (codes "010600e0ff00000100000000000000a100000100010000000000000000000fff000100000000000000000000000000000000000000000000000000000000000000000000000000000000000000000000000200000000000000000000000000000000000000000000000000000000000000000000000000000000000000000000000300000000000000000000000000000000000000000000000000000000000000000000000000000000000000000000fffe00000000000000000000000000000000000000000000000000000000000000000000000000000000000000000000")
    ∷ record_told slice_up 0 [] ∷ record_told slice_up 1 [] ∷ []

-- what follows
abbrev pub opening_lines : List ℕ
opening_lines =
    codes "0 0 lane 01000008ff000000\n0 0 lane 01050008ff000001\n1 0 lane 0109000cff0000020000ffff\n"
    ++ codes "1 0 lane 010e0048ff000003003820ff00000000000000000000000000000000000000000000000000000000000000000000000000000000000000000003000000000000ffffffffffff0000\n1 0 lane 01120008ff000004\n"
    ++ codes "2 0 to alice 0100000800000000\n3 0 to bob 0100000800000000\n"

-- the report of a policy, these records and more, of which these lines come
abbrev pub ReportFollows : PolicyView → List Told → List ℕ → Type 0
ReportFollows p records lines = report p (opened ++ records) ≡ opening_lines ++ lines

-- alice sends a message
abbrev pub alice_sends : List ℕ → Told
alice_sends text = record_told slice_bytes 0 text

-- ---- examples

-- a TCP packet for port 80 reaches alice
abbrev pub PacketReaches : Type 0
PacketReaches = ReportFollows policy (record_told switch_bytes 0 (codes "010a004800000000ffffffff00360001000000000000000200000000000108004500002800000000400600000a0000010a0000020400005000000000000000005002000000000000") ∷ []) (codes "4 0 to alice 010a004800000000ffffffff00360001000000000000000200000000000108004500002800000000400600000a0000010a0000020400005000000000000000005002000000000000\nend 5\n")

-- one for port 443 reaches nobody
abbrev pub PacketPasses : Type 0
PacketPasses = ReportFollows policy (record_told switch_bytes 0 (codes "010a004800000000ffffffff00360001000000000000000200000000000108004500002800000000400600000a0000010a000002040001bb00000000000000005002000000000000") ∷ []) (codes "end 5\n")

-- a length field of 7: BAD_REQUEST, BAD_LEN
abbrev pub BadLengthCloses : Type 0
BadLengthCloses = ReportFollows policy (alice_sends (codes "0102000700000005") ∷ []) (codes "4 0 to alice 0101001400000005000100060102000700000005\n4 0 close alice\nend 5\n")

-- FEATURES_REQUEST: the same features
abbrev pub FeaturesAreTold : Type 0
FeaturesAreTold = ReportFollows policy (alice_sends (codes "0105000800000007") ∷ []) (codes "4 0 to alice 010600e00000000700000000000000a100000100010000000000000000000fff000100000000000000000000000000000000000000000000000000000000000000000000000000000000000000000000000200000000000000000000000000000000000000000000000000000000000000000000000000000000000000000000000300000000000000000000000000000000000000000000000000000000000000000000000000000000000000000000fffe00000000000000000000000000000000000000000000000000000000000000000000000000000000000000000000\nend 5\n")

-- SET_CONFIG, and then GET_CONFIG_REQUEST
abbrev pub ConfigIsKept : Type 0
ConfigIsKept = ReportFollows policy (alice_sends (codes "0109000c0000000100000080") ∷ alice_sends (codes "0107000800000002") ∷ []) (codes "5 0 to alice 0108000c0000000200000080\nend 6\n")

-- SET_CONFIG with a flag: BAD_REQUEST, EPERM
abbrev pub FlagsAreRefused : Type 0
FlagsAreRefused = ReportFollows policy (alice_sends (codes "0109000c0000000300010080") ∷ []) (codes "4 0 to alice 0101001800000003000100050109000c0000000300010080\nend 5\n")

-- HELLO of version 0: HELLO_FAILED, INCOMPATIBLE
abbrev pub OldVersionCloses : Type 0
OldVersionCloses = ReportFollows policy (alice_sends (codes "0000000800000009") ∷ []) (codes "4 0 to alice 0101000c0000000900000000\n4 0 close alice\nend 5\n")

-- ECHO_REQUEST: ECHO_REPLY with the same body
abbrev pub EchoIsAnswered : Type 0
EchoIsAnswered = ReportFollows policy (alice_sends (codes "0102000c00000004aabbccdd") ∷ []) (codes "4 0 to alice 0103000c00000004aabbccdd\nend 5\n")

-- VENDOR: BAD_REQUEST, BAD_VENDOR
abbrev pub VendorIsRefused : Type 0
VendorIsRefused = ReportFollows policy (alice_sends (codes "0104000c0000000a00002320") ∷ []) (codes "4 0 to alice 010100180000000a000100030104000c0000000a00002320\nend 5\n")

-- PORT_MOD: BAD_REQUEST, EPERM
abbrev pub PortModIsRefused : Type 0
PortModIsRefused = ReportFollows policy (alice_sends (codes "010f00200000000b000100000000000000000000000000000000000000000000") ∷ []) (codes "4 0 to alice 0101002c0000000b00010005010f00200000000b000100000000000000000000000000000000000000000000\nend 5\n")
