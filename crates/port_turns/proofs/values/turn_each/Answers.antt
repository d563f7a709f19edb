use Rattle.std.proofs.lemmas.List.Elements.{All-set}
use Rattle.of10_action.specs.Actions.{HasAddress}
use Rattle.flowspace.specs.Swaps.{pairs_of}
use Rattle.port_turns.specs.Turned.{exchanged, turned_action}
use Rattle.port_turns.proofs.Each.{map_over_set}
use Rattle.port_turns.proofs.values.turn_each.Goals as goal

pub loop-action-preserved : goal.loop-action-preserved
loop-action-preserved c =
    let turned = turned_action (exchanged (pairs_of c.args.policy.now.swaps c.args.slot)) in
    let xs = c.args.actions.now in
    let ys = c.loop-action.actions in
    let i = c.loop-action.action-index in (
      map_over_set turned xs ys i _ _ c.loop-action-test.true c.loop-action.auto.actions c.loop-action.invariant.0 c.turn_one.ensures.value,
      All-set HasAddress ys i c.turn_one.new.action c.turn_one.ensures.address c.loop-action.invariant.1,
    )
