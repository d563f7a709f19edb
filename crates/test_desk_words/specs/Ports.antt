-- Worked examples of ports: alice writes packets of port 1 alone.
use Rattle.std.specs.Prelude.{[], ◌∷◌, ◌++◌, codes, Some}
use Rattle.flowspace.specs.Policies.{PolicyView}
use Rattle.recording.specs.Recordings.{switch_bytes}
use Rattle.test_desk_words.specs.Examples.{slice_named, tcp_for, written_rule, record_told, ReportFollows, alice_sends}
use Rattle.test_desk_words.specs.FlowMods.{all_headers, add_fields, quoted_fields, output_2}

abbrev pub port_policy : PolicyView
port_policy = record {
  slices = slice_named (codes "alice") ∷ slice_named (codes "bob") ∷ [];
  rules = written_rule 100 0 (record (tcp_for 80) { in_port = Some 1 }) ∷ written_rule 50 1 (tcp_for 22) ∷ [];
  swaps = [];
}

-- port 2 is modified: bob alone is sent this, without a transaction id
abbrev pub StatusReachesBob : Type 0
StatusReachesBob =
    ReportFollows port_policy (record_told switch_bytes 0 (codes "010c0040000000090200000000000000000200000000000000000000000000000000000000000000000000000000000000000000000000000000000000000000") ∷ []) (codes "4 0 to bob 010c0040000000000200000000000000000200000000000000000000000000000000000000000000000000000000000000000000000000000000000000000000\nend 5\n")

-- her FEATURES_REPLY has port 1 alone
abbrev pub OwnPortsAreTold : Type 0
OwnPortsAreTold =
    ReportFollows port_policy (alice_sends (codes "0105000800000008") ∷ []) (codes "4 0 to alice 010600500000000800000000000000a100000100010000000000000000000fff000100000000000000000000000000000000000000000000000000000000000000000000000000000000000000000000\nend 5\n")

-- she may not output to port 2: BAD_ACTION, BAD_OUT_PORT
abbrev pub OtherPortIsRefused : Type 0
OtherPortIsRefused = ReportFollows port_policy
    (alice_sends (codes "010e00500000002a" ++ all_headers ++ add_fields ++ codes "0000" ++ output_2) ∷ [])
    (codes "4 0 to alice 0101004c0000002a00020004010e00500000002a" ++ all_headers ++ quoted_fields ++ codes "\nend 5\n")
