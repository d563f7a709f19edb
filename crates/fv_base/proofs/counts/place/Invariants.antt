use Rattle.std.proofs.Common.{◌≡◌, ◌+◌, drop}
use Rattle.fv_base.specs.Counts.{count_place}
use Rattle.fv_base.proofs.counts.place.Given as goal

abbrev pub invariant-loop-i : goal.invariant-loop-i
invariant-loop-i l = l.i + count_place (drop l.i l.counts) l.name ≡ count_place l.counts l.name
