use Rattle.std.proofs.Common.{List, length, ◌-◌, ◌≡◌, ◌≤◌, reverse, []}
use Rattle.of10_model.proofs.Results.{with_front}
use Rattle.recording.specs.declared.item.Item.{Item}
use Rattle.recording.specs.Recordings.{items_in}
use Rattle.recording.specs.Standing.{TableStands}
use Rattle.recording.proofs.reading.accept_records.Given as goal

abbrev pub invariant-loop-at : goal.invariant-loop-at
invariant-loop-at l = record {
  so_far : (front : List Item) × (with_front front (items_in l.layout (length l.bytes) l.slices l.bytes (reverse front) l.at) ≡ items_in l.fn.layout (length l.fn.bytes) l.fn.slices l.fn.bytes [] 8) × TableStands l.ups.switches l.ups.slices (reverse front);
  inside : l.at ≤ length l.bytes;
}

abbrev pub decreases-loop-at : goal.decreases-loop-at
decreases-loop-at l = length l.bytes - l.at
