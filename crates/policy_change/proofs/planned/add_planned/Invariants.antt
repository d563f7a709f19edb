use Rattle.std.proofs.Common.{◌≡◌, ◌++◌, take}
use Rattle.policy_change.specs.Planned.{planned_of}
use Rattle.policy_change.proofs.planned.add_planned.Given as goal

abbrev pub invariant-loop-index : goal.invariant-loop-index
invariant-loop-index l = l.to.items ≡ l.fn.to.items ++ planned_of l.new l.slice (take l.index l.book.booked)
