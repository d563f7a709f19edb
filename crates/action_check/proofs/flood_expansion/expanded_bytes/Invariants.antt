use Rattle.std.proofs.Common.{◌≡◌, ◌+◌, ◌≤◌, length, drop}
use Rattle.of10_action.specs.Actions.{spelling}
use Rattle.action_check.specs.Permitted.{expanded}
use Rattle.action_check.proofs.flood_expansion.expanded_bytes.Given as goal

abbrev pub invariant-loop-action : goal.invariant-loop-action
invariant-loop-action l = (l.total ≤ 65463) × (l.total + length (spelling (expanded l.flood l.all (drop l.action-index l.actions))) ≡ length (spelling (expanded l.flood l.all l.actions)))
