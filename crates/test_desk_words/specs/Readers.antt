-- Worked examples of readers: alice writes TCP packets for port 80, and bob reads all others, which nobody writes.
use Rattle.std.specs.Prelude.{[], ◌∷◌, codes, None}
use Rattle.of10_model.specs.Exact.{all_free}
use Rattle.flowspace.specs.Policies.{PolicyView}
use Rattle.recording.specs.Recordings.{switch_bytes}
use Rattle.test_desk_words.specs.Examples.{slice_named, tcp_for, written_rule, record_told, ReportFollows}

abbrev pub reader_policy : PolicyView
reader_policy = record {
  slices = slice_named (codes "alice") ∷ slice_named (codes "bob") ∷ [];
  rules = written_rule 100 0 (tcp_for 80) ∷ record { switch = None; priority = 10; pattern = all_free; writer = None; readers = 2 } ∷ [];
  swaps = [];
}

-- a TCP packet for port 80 reaches alice alone
abbrev pub WriterIsToldAlone : Type 0
WriterIsToldAlone = ReportFollows reader_policy (record_told switch_bytes 0 (codes "010a004800000000ffffffff00360001000000000000000200000000000108004500002800000000400600000a0000010a0000020400005000000000000000005002000000000000") ∷ []) (codes "4 0 to alice 010a004800000000ffffffff00360001000000000000000200000000000108004500002800000000400600000a0000010a0000020400005000000000000000005002000000000000\nend 5\n")

-- one for port 22 reaches bob, without a buffer
abbrev pub ReaderIsTold : Type 0
ReaderIsTold = ReportFollows reader_policy (record_told switch_bytes 0 (codes "010a004800000000ffffffff00360001000000000000000200000000000108004500002800000000400600000a0000010a0000020400001600000000000000005002000000000000") ∷ []) (codes "4 0 to bob 010a004800000000ffffffff00360001000000000000000200000000000108004500002800000000400600000a0000010a0000020400001600000000000000005002000000000000\nend 5\n")
