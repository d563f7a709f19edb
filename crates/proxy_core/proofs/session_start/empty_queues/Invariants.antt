use Rattle.std.proofs.Common.{◌≤◌, ◌-◌, length}
use Rattle.proxy_core.specs.Opening.{AreEmpty}
use Rattle.proxy_core.proofs.session_start.empty_queues.Given as goal

abbrev pub invariant-loop-alloc : goal.invariant-loop-alloc
invariant-loop-alloc l = record {
  empty : AreEmpty (length l.queues.items) l.queues.items;
  few : length l.queues.items ≤ l.count;
}

abbrev pub decreases-loop-alloc : goal.decreases-loop-alloc
decreases-loop-alloc l = l.count - length l.queues.items
