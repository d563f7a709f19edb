use Rattle.std.proofs.Common.{◌≡◌, ◌-◌, ◌++◌}
use Rattle.std.specs.List.{flat_map}
use Rattle.recording.specs.Recordings.{record_bytes}
use Rattle.fv_generator.specs.Made.{rounds, recording_of}
use Rattle.fv_generator.proofs.rounds.made.Given as goal

abbrev pub invariant-loop-number : goal.invariant-loop-number
invariant-loop-number l = l.out.items ++ flat_map record_bytes (rounds (l.fn.count - l.number) l.number l.draws.state) ≡ recording_of l.fn.seed l.fn.count
