use Rattle.std.proofs.Common.{◌≡◌, ◌++◌, length, take}
use Rattle.of10_action.specs.Actions.{spelling}
use Rattle.of10_action.proofs.encode.encode_list.Given as goal

abbrev pub invariant-loop-action : goal.invariant-loop-action
invariant-loop-action l = record {
  so_far : l.out.items ≡ l.fn.out.items ++ spelling (take l.action-index l.actions);
  start_is : l.start ≡ length l.fn.out.items;
}
