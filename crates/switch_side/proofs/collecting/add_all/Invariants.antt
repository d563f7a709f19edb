use Rattle.std.proofs.Common.{◌≡◌, Some, length}
use Rattle.stats_filter.specs.Asking.{type_sent}
use Rattle.switch_side.proofs.Gathering.{AreComing}
use Rattle.switch_side.proofs.collecting.add_all.Given as goal

abbrev pub invariant-loop-size : goal.invariant-loop-size
invariant-loop-size l = record {
  type : Some l.sent ≡ type_sent l.kind;
  coming : AreComing l.kind l.number l.sent l.fn.entries l.rest l.fn.collections l.collections;
}

abbrev pub decreases-loop-size : goal.decreases-loop-size
decreases-loop-size l = length l.rest
