use Rattle.std.proofs.Common.{◌-◌, length}
use Rattle.stats_filter.proofs.Paging.{IsFilled}
use Rattle.stats_filter.proofs.slice_replies.page_end.Given as goal

abbrev pub invariant-loop-size : goal.invariant-loop-size
invariant-loop-size l = IsFilled l.kind l.entries l.end

abbrev pub decreases-loop-size : goal.decreases-loop-size
decreases-loop-size l = length l.entries - l.end
