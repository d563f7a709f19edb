use Rattle.std.proofs.Common.{◌≡◌, length}
use Rattle.of10_stats.specs.declared.protocol.TheConstants.{FLOW}
use Rattle.stats_filter.specs.Keeping.{entries_in}
use Rattle.switch_side.specs.Collecting.{with_flows}
use Rattle.switch_side.proofs.last_part.with_flows.Given as goal

abbrev pub invariant-loop-size : goal.invariant-loop-size
invariant-loop-size l = with_flows (entries_in FLOW l.rest) l.sums ≡ with_flows (entries_in FLOW l.fn.entries) l.initial.sums

abbrev pub decreases-loop-size : goal.decreases-loop-size
decreases-loop-size l = length l.rest
