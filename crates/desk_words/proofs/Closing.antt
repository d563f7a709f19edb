-- The slice that an event came from is up after it, unless its connection is to be closed.
use Rattle.std.proofs.Common.{◌≡◌, ℕ, ◌&&◌, ◌||◌, not, Bool, true, false, List, ◌∷◌, refl, ap, subst, ◌∙◌, Some}
use Rattle.std.proofs.lemmas.Option.{same_Some}
use mathlib.Core.Bool.{and-false}
use Rattle.flowspace.specs.Policies.{PolicyView}
use Rattle.slice_words.specs.Items.{is_up}
use Rattle.desk_words.specs.declared.event.Event.{Event}
use Rattle.desk_words.specs.declared.event.Event.TheVariants.{SwitchUp, SwitchMsg, SwitchDown, SliceUp, SliceMsg, SliceDown}
use Rattle.desk_words.specs.declared.event.Timed.{Timed}
use Rattle.desk_words.specs.declared.phase.Phase.{Phase}
use Rattle.desk_words.specs.declared.phase.Phase.TheVariants.{Fresh, Begun, Opened, Gone}
use Rattle.desk_words.specs.Openings.{phase_after, phase_of}
use Rattle.desk_words.specs.Histories.{is_slot, is_open, view_of, is_slice_up}
use Rattle.desk_words.specs.Verdicts.{is_fresh, closes}
use Rattle.desk_words.specs.Operations.{is_ending, ends}
use Rattle.desk_words.specs.Reports.{speaker}
use Rattle.desk_words.specs.Laws.{IsClosedByVerdict}
use Rattle.desk_words.proofs.Silence.{sees_nothing}

-- a slot that no slice has is never up
none_up : (policy : PolicyView) (slot : ℕ) (h : List Timed) → is_slot policy slot ≡ false → is_slice_up policy slot h ≡ false
none_up policy slot h out = ap (λ sight. is_open (phase_of h) && is_up sight.view) (sees_nothing policy slot h out) ∙ and-false (is_open (phase_of h))

-- before the switch connected nothing of a slice opens its desk
still_fresh : (phase : Phase) (event : Event) (slot : ℕ) → speaker event ≡ Some slot → is_fresh phase ≡ true → is_open (phase_after phase event) ≡ false
still_fresh Fresh SwitchUp slot of fresh = absurd cc
still_fresh Fresh (SwitchMsg message) slot of fresh = refl
still_fresh Fresh SwitchDown slot of fresh = refl
still_fresh Fresh (SliceUp other) slot of fresh = refl
still_fresh Fresh (SliceMsg other message) slot of fresh = refl
still_fresh Fresh (SliceDown other) slot of fresh = refl
still_fresh Begun event slot of fresh = absurd cc
still_fresh Opened event slot of fresh = absurd cc
still_fresh Gone event slot of fresh = absurd cc

by_parts : (fresh here up : Bool) → (fresh ≡ true → up ≡ false) → (here ≡ false → up ≡ false) → up ≡ not ((fresh && not false) || not here || (not false && not up))
by_parts true here up early out = early refl
by_parts false false up early out = out refl
by_parts false true true early out = refl
by_parts false true false early out = refl

early_down : (policy : PolicyView) (slot : ℕ) (h : List Timed) (timed : Timed) → speaker timed.event ≡ Some slot → is_fresh (phase_of h) ≡ true → is_slice_up policy slot (timed ∷ h) ≡ false
early_down policy slot h timed of fresh = ap (λ (b : Bool). b && is_up (view_of policy slot (timed ∷ h))) (still_fresh (phase_of h) timed.event slot of fresh)

closed_by : (policy : PolicyView) (slot moment : ℕ) (h : List Timed) (event : Event) → IsClosedByVerdict policy slot h (record { event = event; moment = moment })
closed_by policy slot moment h SwitchUp of = absurd cc
closed_by policy slot moment h (SwitchMsg message) of = absurd cc
closed_by policy slot moment h SwitchDown of = absurd cc
closed_by policy slot moment h (SliceDown other) of = absurd cc
closed_by policy slot moment h (SliceUp other) of =
    let timed : Timed = record { event = SliceUp other; moment = moment } in
    subst (λ (s : ℕ). is_slice_up policy s (timed ∷ h) ≡ not (closes policy h timed)) (same_Some other slot of)
    (by_parts (is_fresh (phase_of h)) (is_slot policy other) (is_slice_up policy other (timed ∷ h)) (early_down policy other h timed refl) (none_up policy other (timed ∷ h)))
closed_by policy slot moment h (SliceMsg other message) of =
    let timed : Timed = record { event = SliceMsg other message; moment = moment } in
    subst (λ (s : ℕ). is_slice_up policy s (timed ∷ h) ≡ not (closes policy h timed)) (same_Some other slot of)
    (by_parts (is_fresh (phase_of h)) (is_slot policy other) (is_slice_up policy other (timed ∷ h)) (early_down policy other h timed refl) (none_up policy other (timed ∷ h)))

pub closed_by_verdict : (policy : PolicyView) (slot : ℕ) (h : List Timed) (timed : Timed) → IsClosedByVerdict policy slot h timed
closed_by_verdict policy slot h timed = closed_by policy slot timed.moment h timed.event

-- no event of a slice ends the switch's connection
goes_on : (phase : Phase) (event : Event) (slot : ℕ) → speaker event ≡ Some slot → is_ending phase event ≡ false
goes_on phase SwitchUp slot of = absurd cc
goes_on phase (SwitchMsg message) slot of = absurd cc
goes_on phase SwitchDown slot of = absurd cc
goes_on phase (SliceDown other) slot of = absurd cc
goes_on Fresh (SliceUp other) slot of = refl
goes_on Begun (SliceUp other) slot of = refl
goes_on Opened (SliceUp other) slot of = refl
goes_on Gone (SliceUp other) slot of = refl
goes_on Fresh (SliceMsg other message) slot of = refl
goes_on Begun (SliceMsg other message) slot of = refl
goes_on Opened (SliceMsg other message) slot of = refl
goes_on Gone (SliceMsg other message) slot of = refl

pub none_ends : (h : List Timed) (timed : Timed) (slot : ℕ) → speaker timed.event ≡ Some slot → ends h timed ≡ false
none_ends h timed slot of = goes_on (phase_of h) timed.event slot of
