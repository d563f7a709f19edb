use Rattle.switch_side.specs.Dispatches.{shown_by}
use Rattle.port_turns.proofs.Each.{map_over_set}
use Rattle.switch_side.proofs.dispatch.show_each.Goals as goal

pub loop-message-preserved : goal.loop-message-preserved
loop-message-preserved c =
    map_over_set (shown_by c.args.policy.now.swaps) c.args.messages.now c.loop-message.messages c.loop-message.message-index _ _ c.loop-message-test.true c.loop-message.auto.messages c.loop-message.invariant c.in_ok-show_one.ensures
