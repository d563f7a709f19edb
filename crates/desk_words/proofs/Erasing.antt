-- Events of other slices: nothing known of the switch changes, and a slice sees nothing of them.
use Rattle.std.proofs.Common.{◌≡◌, ℕ, ◌==◌, Bool, true, false, not, if◌then◌else◌, List, [], ◌∷◌, ◌++◌, refl, ap, ap₂, sym, ◌∙◌, append-nil, true≢false, Option, Some, None}
use Rattle.std.proofs.lemmas.Bool.{not-true}
use Rattle.of10_model.proofs.Results.{either_none}
use Rattle.of10_port.specs.declared.features.Features.{Features}
use Rattle.flowspace.specs.Policies.{PolicyView}
use Rattle.desk_words.specs.declared.event.Event.{Event}
use Rattle.desk_words.specs.declared.event.Event.TheVariants.{SwitchUp, SwitchMsg, SwitchDown, SliceUp, SliceMsg, SliceDown}
use Rattle.desk_words.specs.declared.event.Timed.{Timed}
use Rattle.desk_words.specs.declared.phase.Phase.{Phase}
use Rattle.desk_words.specs.declared.phase.Phase.TheVariants.{Fresh, Begun, Opened, Gone}
use Rattle.slice_words.specs.Alone.{sent_for}
use Rattle.desk_words.specs.Openings.{phase_of, phase_after, opening_after, known_after, KnownSwitch, switch_after, switch_of, opening_of}
use Rattle.desk_words.specs.Histories.{is_slot, settings_at, SliceSide, items_of, phase_items, event_items, with_shown, side_of, view_of}
use Rattle.desk_words.specs.Sent.{sent_with, sent_by, sent}
use Rattle.desk_words.specs.Laws.{is_others, erased, IsServedTheSame, IsErasable}

-- an event of a slice's connection
abbrev is_slices : Event → Bool
is_slices (SliceUp slot) = true
is_slices (SliceMsg slot message) = true
is_slices (SliceDown slot) = true
is_slices event = false

slices_phase : (phase : Phase) (event : Event) → is_slices event ≡ true → phase_after phase event ≡ phase
slices_phase Fresh (SliceUp slot) is = refl
slices_phase Fresh (SliceMsg slot message) is = refl
slices_phase Fresh (SliceDown slot) is = refl
slices_phase Begun (SliceUp slot) is = refl
slices_phase Begun (SliceMsg slot message) is = refl
slices_phase Begun (SliceDown slot) is = refl
slices_phase Opened (SliceUp slot) is = refl
slices_phase Opened (SliceMsg slot message) is = refl
slices_phase Opened (SliceDown slot) is = refl
slices_phase Gone (SliceUp slot) is = refl
slices_phase Gone (SliceMsg slot message) is = refl
slices_phase Gone (SliceDown slot) is = refl
slices_phase phase SwitchUp is = absurd (true≢false (sym is))
slices_phase phase (SwitchMsg message) is = absurd (true≢false (sym is))
slices_phase phase SwitchDown is = absurd (true≢false (sym is))

slices_opening : (phase : Phase) (told : Option Features) (event : Event) → is_slices event ≡ true → opening_after phase told event ≡ told
slices_opening phase (Some features) event is = refl
slices_opening Fresh None event is = refl
slices_opening Begun None (SliceUp slot) is = refl
slices_opening Begun None (SliceMsg slot message) is = refl
slices_opening Begun None (SliceDown slot) is = refl
slices_opening Begun None SwitchUp is = refl
slices_opening Begun None (SwitchMsg message) is = absurd (true≢false (sym is))
slices_opening Begun None SwitchDown is = refl
slices_opening Opened None event is = refl
slices_opening Gone None event is = refl

slices_known : (phase : Phase) (known : List (List ℕ)) (event : Event) → is_slices event ≡ true → known_after phase known event ≡ known
slices_known Fresh known event is = refl
slices_known Gone known event is = refl
slices_known Begun known (SliceUp slot) is = refl
slices_known Begun known (SliceMsg slot message) is = refl
slices_known Begun known (SliceDown slot) is = refl
slices_known Opened known (SliceUp slot) is = refl
slices_known Opened known (SliceMsg slot message) is = refl
slices_known Opened known (SliceDown slot) is = refl
slices_known phase known SwitchUp is = absurd (true≢false (sym is))
slices_known phase known (SwitchMsg message) is = absurd (true≢false (sym is))
slices_known phase known SwitchDown is = absurd (true≢false (sym is))

-- nothing that a slice does changes what is known of the switch
pub slices_switch : (switch : KnownSwitch) (event : Event) → is_slices event ≡ true → switch_after switch event ≡ switch
slices_switch switch event is =
    rw (slices_phase switch.phase event is, slices_opening switch.phase switch.features event is, slices_known switch.phase switch.known event is) refl

-- the event of another slice is one of a slice
others_slices : (slot : ℕ) (event : Event) → is_others slot event ≡ true → is_slices event ≡ true
others_slices slot (SliceUp other) is = refl
others_slices slot (SliceMsg other message) is = refl
others_slices slot (SliceDown other) is = refl
others_slices slot SwitchUp is = absurd (true≢false (sym is))
others_slices slot (SwitchMsg message) is = absurd (true≢false (sym is))
others_slices slot SwitchDown is = absurd (true≢false (sym is))

-- after the opening it shows nothing
others_shown : (policy : PolicyView) (slot : ℕ) (switch : KnownSwitch) (side : SliceSide) (moment : ℕ) (event : Event)
    → is_others slot event ≡ true → event_items policy slot switch side moment event ≡ []
others_shown policy slot switch side moment (SliceUp other) is = rw (not-true (other == slot) is) refl
others_shown policy slot switch side moment (SliceMsg other message) is = rw (not-true (other == slot) is) refl
others_shown policy slot switch side moment (SliceDown other) is = rw (not-true (other == slot) is) refl
others_shown policy slot switch side moment SwitchUp is = refl
others_shown policy slot switch side moment (SwitchMsg message) is = absurd (true≢false (sym is))
others_shown policy slot switch side moment SwitchDown is = absurd (true≢false (sym is))

others_begun : (policy : PolicyView) (slot : ℕ) (switch : KnownSwitch) (side : SliceSide) (timed : Timed) (event : Event)
    → timed.event ≡ event → is_others slot event ≡ true → phase_items policy slot switch side timed Begun ≡ []
others_begun policy slot switch side timed (SliceUp other) e is = rw e refl
others_begun policy slot switch side timed (SliceMsg other message) e is = rw e refl
others_begun policy slot switch side timed (SliceDown other) e is = rw e refl
others_begun policy slot switch side timed SwitchUp e is = rw e refl
others_begun policy slot switch side timed (SwitchMsg message) e is = absurd (true≢false (sym is))
others_begun policy slot switch side timed SwitchDown e is = rw e refl

others_in : (policy : PolicyView) (slot : ℕ) (switch : KnownSwitch) (side : SliceSide) (timed : Timed) (phase : Phase)
    → is_others slot timed.event ≡ true → phase_items policy slot switch side timed phase ≡ []
others_in policy slot switch side timed Fresh is = refl
others_in policy slot switch side timed Begun is = others_begun policy slot switch side timed timed.event refl is
others_in policy slot switch side timed Opened is = others_shown policy slot switch side timed.moment timed.event is
others_in policy slot switch side timed Gone is = refl

pub others_items : (policy : PolicyView) (slot : ℕ) (switch : KnownSwitch) (side : SliceSide) (timed : Timed)
    → is_others slot timed.event ≡ true → items_of policy slot switch side timed ≡ []
others_items policy slot switch side timed is =
    either_none (is_slot policy slot) (phase_items policy slot switch side timed switch.phase) (others_in policy slot switch side timed switch.phase is)

-- nothing that a slice does hands a packet up
slices_unnumbered : (phase : Phase) (event : Event) (moment : ℕ) (side : SliceSide) → is_slices event ≡ true → with_shown phase (record { event = event; moment = moment }) [] side ≡ side
slices_unnumbered Opened (SliceUp other) moment side is = refl
slices_unnumbered Opened (SliceMsg other message) moment side is = refl
slices_unnumbered Opened (SliceDown other) moment side is = refl
slices_unnumbered Opened SwitchUp moment side is = absurd (true≢false (sym is))
slices_unnumbered Opened (SwitchMsg message) moment side is = absurd (true≢false (sym is))
slices_unnumbered Opened SwitchDown moment side is = absurd (true≢false (sym is))
slices_unnumbered Fresh event moment side is = refl
slices_unnumbered Begun event moment side is = refl
slices_unnumbered Gone event moment side is = refl

-- ---- histories

-- one event more of the switch or of the slice itself
keeps : (policy : PolicyView) (slot : ℕ) (g h : List Timed) (timed : Timed) → IsServedTheSame policy slot g h → IsServedTheSame policy slot (timed ∷ g) (timed ∷ h)
keeps policy slot g h timed same = record {
  switch = ap (λ switch. switch_after switch timed.event) same.switch;
  side = ap₂ (λ switch side. with_shown switch.phase timed (items_of policy slot switch side timed) side) same.switch same.side;
  sends = ap₂ (λ (a b : List (List ℕ)). a ++ b) same.sends (ap₂ (λ switch side. sent_with policy slot switch side timed) same.switch same.side);
}

-- one event more of another slice
skips : (policy : PolicyView) (slot : ℕ) (g h : List Timed) (timed : Timed) → is_others slot timed.event ≡ true → IsServedTheSame policy slot g h → IsServedTheSame policy slot g (timed ∷ h)
skips policy slot g h timed is same =
    let none = others_items policy slot (switch_of h) (side_of policy slot h) timed is in
    let unsent : sent_by policy slot h timed ≡ [] = ap (λ items. sent_for (settings_at policy slot (opening_of h)) (view_of policy slot h) items) none in
    record {
      switch = same.switch ∙ sym (slices_switch (switch_of h) timed.event (others_slices slot timed.event is));
      side = same.side ∙ sym (ap (λ items. with_shown (phase_of h) timed items (side_of policy slot h)) none ∙ slices_unnumbered (phase_of h) timed.event timed.moment (side_of policy slot h) (others_slices slot timed.event is));
      sends = same.sends ∙ sym (append-nil (sent policy slot h)) ∙ ap (λ (m : List (List ℕ)). sent policy slot h ++ m) (sym unsent);
    }

one_more : (policy : PolicyView) (slot : ℕ) (h : List Timed) (timed : Timed) (b : Bool) → is_others slot timed.event ≡ b
    → IsErasable policy slot h → IsServedTheSame policy slot (if not b then timed ∷ erased slot h else erased slot h) (timed ∷ h)
one_more policy slot h timed true is same = skips policy slot (erased slot h) h timed is same
one_more policy slot h timed false is same = keeps policy slot (erased slot h) h timed same

pub erasable : (policy : PolicyView) (slot : ℕ) (h : List Timed) → IsErasable policy slot h
erasable policy slot [] = record { switch = refl; side = refl; sends = refl }
erasable policy slot (timed ∷ h) = one_more policy slot h timed (is_others slot timed.event) refl (erasable policy slot h)
