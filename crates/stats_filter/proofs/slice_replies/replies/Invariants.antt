use Rattle.std.proofs.Common.{length}
use Rattle.stats_filter.proofs.Paging.{IsReplied}
use Rattle.stats_filter.proofs.slice_replies.replies.Given as goal

abbrev pub invariant-loop-frames : goal.invariant-loop-frames
invariant-loop-frames l = IsReplied l.sent l.xid l.entries l.rest l.frames.items

abbrev pub decreases-loop-frames : goal.decreases-loop-frames
decreases-loop-frames l = length l.rest
