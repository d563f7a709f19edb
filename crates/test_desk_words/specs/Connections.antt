-- Worked examples of connections that come and go.
use Rattle.std.specs.Prelude.{◌≡◌, [], ◌∷◌, codes}
use Rattle.recording.specs.Recordings.{switch_up, switch_bytes, switch_down, slice_up}
use Rattle.desk_words.specs.Reports.{report}
use Rattle.test_desk_words.specs.Examples.{policy, record_told, ReportFollows}

-- no record: no event
abbrev pub NothingHappens : Type 0
NothingHappens = report policy [] ≡ codes "end 0\n"

-- the switch's connection ends, and so it does with a message whose length field is 4
abbrev pub SwitchGoes : Type 0
SwitchGoes = ReportFollows policy (record_told switch_down 0 [] ∷ []) (codes "4 0 down\nend 5\n")

abbrev pub BadLengthEndsTheSwitch : Type 0
BadLengthEndsTheSwitch = ReportFollows policy (record_told switch_bytes 0 (codes "0102000400000005") ∷ []) (codes "4 0 down\nend 5\n")

-- alice connects before the switch has said what it is
abbrev pub EarlySliceIsRefused : Type 0
EarlySliceIsRefused =
    report policy (record_told switch_up 0 [] ∷ record_told slice_up 0 [] ∷ [])
    ≡ codes "0 0 lane 01000008ff000000\n0 0 lane 01050008ff000001\n1 0 close alice\nend 2\n"
