use Rattle.std.proofs.Common.{◌≡◌, ℕ, List, length}
use Rattle.std.specs.Vec.Iter.{into_iter_items, into_iter_len}
use Rattle.switch_side.specs.Changes.{StatesHaveRoom}
use Rattle.flowspace.specs.Policies.{PolicyView}
use Rattle.desk_words.specs.Openings.{KnownSwitch}
use Rattle.desk_words.specs.Histories.{SliceSide}
use Rattle.switch_side.proofs.Making.{AllOnTheWay}
use Rattle.switch_side.proofs.applying.apply_each.Given as goal

abbrev pub invariant-loop-slot : goal.invariant-loop-slot
invariant-loop-slot l = record {
  whole : into_iter_len l.slot-iterator ≡ length (into_iter_items l.slot-iterator);
  room : StatesHaveRoom (into_iter_items l.slot-iterator) l.states.items;
  count : length l.states.items ≡ length l.initial.states.items;
  way : (p : PolicyView) (switch : KnownSwitch) (sides : ℕ → SliceSide) (moment : ℕ) (message : List ℕ) → AllOnTheWay p switch sides moment message (into_iter_items l.initial.slot-iterator) l.initial.states.items
      → AllOnTheWay p switch sides moment message (into_iter_items l.slot-iterator) l.states.items;
}
