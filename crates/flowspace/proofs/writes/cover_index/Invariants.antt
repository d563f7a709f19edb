use Rattle.std.proofs.Common.{take}
use Rattle.flowspace.specs.Places.{IsCoverIndex}
use Rattle.flowspace.proofs.writes.cover_index.Given as goal

abbrev pub invariant-loop-place : goal.invariant-loop-place
invariant-loop-place l = IsCoverIndex l.by_port (take l.place l.rules) l.slot l.index
