use Rattle.std.proofs.Common.{ℕ, ◌≡◌, ◌≤◌, ◌-◌, [], length, Some, slice_get}
use Rattle.of10_ctl.specs.Streams.{Stream, Stands}
use Rattle.event_player.proofs.streams.fresh_framers.Given as goal

abbrev pub invariant-loop-alloc : goal.invariant-loop-alloc
invariant-loop-alloc l = record {
  few : length l.framers.items ≤ l.count;
  each : (slot : ℕ) (framer : Stream) → slice_get l.framers.items slot ≡ Some framer → Stands framer [] [];
}

abbrev pub decreases-loop-alloc : goal.decreases-loop-alloc
decreases-loop-alloc l = l.count - length l.framers.items
