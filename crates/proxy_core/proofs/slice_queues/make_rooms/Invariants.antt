use Rattle.std.proofs.Common.{ℕ, ◌≡◌, ◌<◌, List, length, Some, slice_get}
use Rattle.proxy_core.specs.Handing.{HasRoomAt, AreSame}
use Rattle.proxy_core.proofs.slice_queues.make_rooms.Given as goal

abbrev pub invariant-loop-at : goal.invariant-loop-at
invariant-loop-at l = record {
  same : AreSame l.initial.queues.items l.queues.items;
  more : (slot n : ℕ) → HasRoomAt slot n l.initial.queues.items → HasRoomAt slot n l.queues.items;
  room : (i : ℕ) (pair : ℕ × List ℕ) → i < l.at → slice_get l.messages i ≡ Some pair → HasRoomAt pair.0 (length l.messages) l.queues.items;
}
