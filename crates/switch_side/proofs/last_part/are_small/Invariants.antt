use Rattle.std.proofs.Common.{length}
use Rattle.stats_filter.specs.Keeping.{entries_in}
use Rattle.stats_filter.specs.Laws.{FitPages}
use Rattle.switch_side.proofs.last_part.are_small.Given as goal

abbrev pub invariant-loop-size : goal.invariant-loop-size
invariant-loop-size l = FitPages (entries_in l.kind l.rest) → FitPages (entries_in l.kind l.entries)

abbrev pub decreases-loop-size : goal.decreases-loop-size
decreases-loop-size l = length l.rest
