-- Worked examples of two worlds: alice is sent the same whatever bob may write and read, and at whatever priorities the rules stand.
use Rattle.std.specs.Prelude.{ℕ, ◌≡◌, List, [], ◌∷◌, ◌++◌, codes, reverse, None}
use Rattle.of10_model.specs.Exact.{all_free}
use Rattle.flowspace.specs.Policies.{PolicyView}
use Rattle.recording.specs.Recordings.{Told, switch_bytes}
use Rattle.desk_words.specs.declared.event.Timed.{Timed}
use Rattle.desk_words.specs.Openings.{opening_of}
use Rattle.desk_words.specs.Histories.{settings_at, view_of}
use Rattle.desk_words.specs.Sent.{sent}
use Rattle.desk_words.specs.Recorded.{history_of}
use Rattle.test_desk_words.specs.Examples.{slice_named, tcp_for, written_rule, policy, record_told, opened, alice_sends, ReportFollows}
use Rattle.test_desk_words.specs.FlowMods.{all_headers, to_80, add_fields, output_2}

-- the other world: bob reads alice's packets, writes TCP packets for port 23 in the place of port 22, and reads all that nobody writes; and each rule has another priority
abbrev pub other_policy : PolicyView
other_policy = record {
  slices = slice_named (codes "alice") ∷ slice_named (codes "bob") ∷ [];
  rules =
      record (written_rule 7 0 (tcp_for 80)) { readers = 2 }
      ∷ written_rule 3 1 (tcp_for 23)
      ∷ record { switch = None; priority = 1; pattern = all_free; writer = None; readers = 2 }
      ∷ [];
  swaps = [];
}

-- TCP packets for port 80 and for port 22
abbrev pub web_packet : List ℕ
web_packet = codes "010a004800000000ffffffff00360001000000000000000200000000000108004500002800000000400600000a0000010a0000020400005000000000000000005002000000000000"

abbrev pub ssh_packet : List ℕ
ssh_packet = codes "010a004800000000ffffffff00360001000000000000000200000000000108004500002800000000400600000a0000010a0000020400001600000000000000005002000000000000"

-- the switch hands up both, and alice adds an entry for every header
abbrev pub both_packets : List Told
both_packets =
    record_told switch_bytes 0 web_packet ∷ record_told switch_bytes 0 ssh_packet
    ∷ alice_sends (codes "010e00500000002a" ++ all_headers ++ add_fields ++ codes "0000" ++ output_2) ∷ []

-- what she has the switch sent
abbrev pub entry_line : List ℕ
entry_line = codes "6 0 lane 010e005000000000" ++ to_80 ++ add_fields ++ codes "0001" ++ output_2 ++ codes "\n"

-- in the first world alice gets the one packet, and bob the other, which he writes
abbrev pub FirstWorld : Type 0
FirstWorld = ReportFollows policy both_packets (codes "4 0 to alice " ++ web_packet ++ codes "\n5 0 to bob " ++ ssh_packet ++ codes "\n" ++ entry_line ++ codes "end 7\n")

-- in the other one she gets the same, and bob reads both
abbrev pub OtherWorld : Type 0
OtherWorld = ReportFollows other_policy both_packets
    (codes "4 0 to alice " ++ web_packet ++ codes "\n4 0 to bob " ++ web_packet ++ codes "\n5 0 to bob " ++ ssh_packet ++ codes "\n" ++ entry_line ++ codes "end 7\n")

-- the switch's history under a policy, which is the same in both
abbrev pub history : PolicyView → List Timed
history p = history_of p 0 (reverse (opened ++ both_packets))

-- by both policies alice has the same settings, and she sees the same of both histories
abbrev pub HasTheSameSettings : Type 0
HasTheSameSettings = settings_at policy 0 (opening_of (history policy)) ≡ settings_at other_policy 0 (opening_of (history other_policy))

abbrev pub SeesTheSame : Type 0
SeesTheSame = view_of policy 0 (history policy) ≡ view_of other_policy 0 (history other_policy)

-- so she is sent the same
abbrev pub IsSentTheSame : Type 0
IsSentTheSame = sent policy 0 (history policy) ≡ sent other_policy 0 (history other_policy)
