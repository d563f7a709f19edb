use Rattle.std.proofs.Common.{◌≡◌, take}
use Rattle.action_check.specs.Permitted.{expanded}
use Rattle.action_check.proofs.flood_expansion.expansion.Given as goal

abbrev pub invariant-loop-action : goal.invariant-loop-action
invariant-loop-action l = l.list.items ≡ expanded l.flood l.all (take l.action-index l.actions)
