use Rattle.std.proofs.Common.{◌≡◌, ◌++◌, take, drop, map}
use Rattle.switch_side.specs.Dispatches.{shown_by}
use Rattle.switch_side.proofs.dispatch.show_each.Given as goal

abbrev pub invariant-loop-message : goal.invariant-loop-message
invariant-loop-message l = l.messages ≡ map (shown_by l.policy.swaps) (take l.message-index l.fn.messages) ++ drop l.message-index l.fn.messages
