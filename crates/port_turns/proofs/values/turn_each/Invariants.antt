use Rattle.std.proofs.Common.{◌≡◌, ◌++◌, take, drop, map}
use Rattle.std.specs.List.{All}
use Rattle.of10_action.specs.Actions.{HasAddress}
use Rattle.flowspace.specs.Swaps.{pairs_of}
use Rattle.port_turns.specs.Turned.{exchanged, turned_action}
use Rattle.port_turns.proofs.values.turn_each.Given as goal

abbrev pub invariant-loop-action : goal.invariant-loop-action
invariant-loop-action l =
    (l.actions ≡ map (turned_action (exchanged (pairs_of l.policy.swaps l.slot))) (take l.action-index l.fn.actions) ++ drop l.action-index l.fn.actions)
    × All HasAddress l.actions
