-- Messages for slices with the port numbers that the slices are shown.
use Rattle.std.proofs.Common.{◌≡◌, ℕ, ◌+◌, ◌<◌, ◌≤◌, nat_lt, true, false, List, [], ◌∷◌, ◌++◌, map, length, slice_get, refl, sym, ap, ap₂, subst, ◌∙◌, arith, true≢false, Some}
use Rattle.std.proofs.lemmas.Bool.{lt-ltb}
use Rattle.std.proofs.lemmas.List.{map-append}
use Rattle.of10_port.specs.declared.features.Features.{Features}
use Rattle.flowspace.specs.declared.slices.Slice.{Slice}
use Rattle.flowspace.specs.declared.swaps.Swap.{Swap}
use Rattle.flowspace.specs.Swaps.{pairs_of}
use Rattle.flowspace.specs.Policies.{PolicyView, SwitchView}
use Rattle.port_turns.specs.Sent.{turn_out}
use Rattle.port_turns.proofs.Stays.{none_stays}
use Rattle.slice_words.specs.Items.{Settings}
use Rattle.slice_words.proofs.Joining.{sent_shown}
use Rattle.desk_words.specs.declared.event.Timed.{Timed}
use Rattle.desk_words.specs.Openings.{swaps_of, KnownSwitch}
use Rattle.desk_words.specs.Histories.{settings_at, items_of, SliceSide}
use Rattle.desk_words.specs.Sent.{sent_with}
use Rattle.switch_side.specs.declared.change.Change.{Change}
use Rattle.switch_side.specs.declared.dispatch.Dispatch.{Dispatch}
use Rattle.switch_side.specs.Dispatches.{Surrounds, addressed, shown_by, answered_with, answered_to_all, sent_to_all, told_at, AreChanges, IsAnswered, IsDispatch}
use Rattle.switch_side.specs.Carrying.{Carried, carried}
use Rattle.switch_side.proofs.Told.{has_item}

-- where no swap holds on the switch, messages stay
pub none_shown : (swaps : List Swap) → nat_lt 0 (length swaps) ≡ false → (messages : List (ℕ × List ℕ)) → messages ≡ map (shown_by swaps) messages
none_shown [] none [] = refl
none_shown [] none (message ∷ messages) = ap₂ (λ (f : List ℕ) (others : List (ℕ × List ℕ)). (message.0, f) ∷ others) (sym (none_stays message.1)) (none_shown [] none messages)
none_shown (swap ∷ swaps) none messages = absurd (true≢false (sym (lt-ltb 0 (length (swap ∷ swaps)) (omega arith)) ∙ none))

addressed_shown : (swaps : List Swap) (slot : ℕ) (messages : List (List ℕ)) → map (shown_by swaps) (addressed slot messages) ≡ addressed slot (map (turn_out (pairs_of swaps slot)) messages)
addressed_shown swaps slot [] = refl
addressed_shown swaps slot (message ∷ messages) = ap (λ (others : List (ℕ × List ℕ)). (slot, turn_out (pairs_of swaps slot) message) ∷ others) (addressed_shown swaps slot messages)

-- the pairs of a slice are those of the swaps that hold on the switch
own_pairs : (p : PolicyView) (switch : KnownSwitch) (slot : ℕ) (slice : Slice) → slice_get p.slices slot ≡ Some slice → (settings_at p slot switch.features).swaps ≡ pairs_of (swaps_of p switch.features) slot
own_pairs p switch slot slice there = rw (there, settings_at) refl

module _ (p : PolicyView) (switch : KnownSwitch) (sides : ℕ → SliceSide) (timed : Timed) where
  slot_shown : (slot : ℕ) → slot < length p.slices → map (shown_by (swaps_of p switch.features)) (addressed slot (answered_with p slot switch (sides slot) timed)) ≡ addressed slot (sent_with p slot switch (sides slot) timed)
  slot_shown slot lt =
      let slice = has_item p.slices slot lt in
      let s = settings_at p slot switch.features in
      let answers = answered_with p slot switch (sides slot) timed in
      addressed_shown (swaps_of p switch.features) slot answers
      ∙ ap (λ pairs. addressed slot (map (turn_out pairs) answers)) (sym (own_pairs p switch slot slice.0 slice.1))
      ∙ ap (addressed slot) (sym (sent_shown s (sides slot).sight.view (items_of p slot switch (sides slot) timed)))

  all_shown : (slot : ℕ) (slices : List Slice) → slot + length slices ≤ length p.slices → map (shown_by (swaps_of p switch.features)) (answered_to_all p switch sides timed slot slices) ≡ sent_to_all p switch sides timed slot slices
  all_shown slot [] le = refl
  all_shown slot (slice ∷ slices) le =
      map-append (shown_by (swaps_of p switch.features)) (addressed slot (answered_with p slot switch (sides slot) timed)) (answered_to_all p switch sides timed (slot + 1) slices)
      ∙ ap₂ (λ (now later : List (ℕ × List ℕ)). now ++ later) (slot_shown slot (omega (arith, le))) (all_shown (slot + 1) slices (omega (arith, le)))

pub shown_dispatch : (p : PolicyView) (switch : KnownSwitch) (sides : ℕ → SliceSide) (moment : ℕ) (message : List ℕ) (policy : SwitchView) (ports : List (List ℕ)) (d shown : Dispatch)
    → Surrounds p switch policy ports → IsAnswered p switch sides moment message d
    → carried shown ≡ record (carried d) { messages = map (shown_by policy.swaps) d.to_slices.items } → IsDispatch p switch sides moment message shown
shown_dispatch p switch sides moment message policy ports d shown around answered is = record {
  to_slices =
      ap (λ (c : Carried). c.messages) is
      ∙ ap₂ (λ (swaps : List Swap) (messages : List (ℕ × List ℕ)). map (shown_by swaps) messages) around.swaps answered.to_slices
      ∙ all_shown p switch sides (told_at moment message) 0 p.slices (omega arith);
  to_switch = ap (λ (c : Carried). c.replies) is ∙ answered.to_switch;
  changes = subst (AreChanges p switch sides moment message) (sym (ap (λ (c : Carried). c.changes) is)) answered.changes;
  port = ap (λ (c : Carried). c.status) is ∙ answered.port;
  close = ap (λ (c : Carried). c.ends) is ∙ answered.close;
}
