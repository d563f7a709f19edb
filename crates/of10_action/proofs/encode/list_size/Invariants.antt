use Rattle.std.proofs.Common.{◌≡◌, ◌≤◌, ◌*◌, length, take}
use Rattle.of10_action.specs.Actions.{spelling}
use Rattle.of10_action.proofs.encode.list_size.Given as goal

abbrev pub invariant-loop-action : goal.invariant-loop-action
invariant-loop-action l = record {
  so_far : l.total ≡ length (spelling (take l.action-index l.actions));
  small : l.total ≤ 16 * l.action-index;
}
