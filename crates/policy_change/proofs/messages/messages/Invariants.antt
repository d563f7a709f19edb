use Rattle.std.proofs.Common.{◌≡◌, ◌+◌, ◌%◌, ◌^◌, ◌++◌, drop}
use Rattle.policy_change.specs.Plans.{plan_from}
use Rattle.policy_change.proofs.messages.messages.Given as goal

abbrev pub invariant-loop-booked : goal.invariant-loop-booked
invariant-loop-booked l = record {
  so_far : l.messages.items ++ plan_from (0xff000005 + l.booked-index) (drop l.booked-index l.pairs) ≡ plan_from 0xff000005 l.pairs;
  xid : l.xid ≡ (0xff000005 + l.booked-index) % 2 ^ 32;
}
