use Rattle.std.proofs.Common.{length, ◌-◌, ◌≡◌, ◌≤◌, ◌⊎◌, reverse, []}
use Rattle.std.specs.List.{All}
use Rattle.of10_model.proofs.Results.{with_front}
use Rattle.recording.specs.Recordings.{IsRead, HasFirstIn, items_in}
use Rattle.recording.specs.Standing.{TableStands}
use Rattle.recording.proofs.reading.records.Given as goal

abbrev pub invariant-loop-at : goal.invariant-loop-at
invariant-loop-at l = record {
  so_far : with_front l.items.items (items_in l.layout (length l.bytes) l.slices l.bytes (reverse l.items.items) l.at) ≡ items_in l.fn.layout (length l.fn.bytes) l.fn.slices l.fn.bytes [] 8;
  stands : TableStands l.ups.switches l.ups.slices (reverse l.items.items);
  range : All (IsRead l.layout l.slices l.bytes) l.items.items;
  inside : l.at ≤ length l.bytes;
  begun : ((l.items.items ≡ []) × (l.at ≡ 8)) ⊎ HasFirstIn l.layout l.slices l.bytes;
}

abbrev pub decreases-loop-at : goal.decreases-loop-at
decreases-loop-at l = length l.bytes - l.at
