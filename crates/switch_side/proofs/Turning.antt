-- What follows for all slices where something follows for one at most.
use Rattle.std.proofs.Common.{◌≡◌, ℕ, ◌+◌, ◌<◌, ◌≤◌, ◌==◌, Bool, true, false, if◌then◌else◌, List, [], ◌∷◌, ◌++◌, length, refl, ap, ap₂, subst, sym, ◌∙◌, append-nil, arith, eqb-true, Option, Some, None, inl, inr}
use Rattle.std.proofs.lemmas.Bool.{cases_eq, eq-eqb, ne_eqb, ltb-false, lt-ltb}
use Rattle.flowspace.specs.declared.slices.Slice.{Slice}
use Rattle.flowspace.specs.Policies.{PolicyView}
use Rattle.slice_words.specs.Items.{Settings, Sight, Item}
use Rattle.slice_words.specs.Alone.{answers_for}
use Rattle.desk_words.specs.declared.event.Timed.{Timed}
use Rattle.desk_words.specs.Openings.{KnownSwitch}
use Rattle.desk_words.specs.Histories.{is_slot, settings_at, SliceSide, items_of, number_told}
use Rattle.desk_words.specs.declared.event.Event.TheVariants.{SwitchMsg}
use Rattle.switch_side.specs.declared.change.Change.{Change}
use Rattle.switch_side.specs.Changes.{of_slot, IsChangeOfItems, SlotChanges}
use Rattle.switch_side.specs.Dispatches.{answered_with, addressed, answered_to_all, told_at, AreChanges}
use Rattle.switch_side.specs.Carrying.{Turn, turn_told, turn_changes}
use Rattle.switch_side.proofs.MessageTypes.{items_none}

-- a turn where it is that of a slot
abbrev pub turn_at : ℕ → Option Turn → Option Turn
turn_at slot None = None
turn_at slot (Some turn) = if turn.slot == slot then Some turn else None

pub turn_at-own : (slot : ℕ) (turn : Turn) → (turn.slot == slot) ≡ true → turn_at slot (Some turn) ≡ Some turn
turn_at-own slot turn is = rw is refl

pub turn_at-other : (slot : ℕ) (turn : Turn) → (turn.slot == slot) ≡ false → turn_at slot (Some turn) ≡ None
turn_at-other slot turn isnt = rw isnt refl

-- it is that of a slice
abbrev pub IsWithin : PolicyView → Option Turn → Type 0
IsWithin p None = Unit {0}
IsWithin p (Some turn) = turn.slot < length p.slices

-- ---- what is sent

module _ (p : PolicyView) (switch : KnownSwitch) (sides : ℕ → SliceSide) (timed : Timed) where
  abbrev to : ℕ → List (List ℕ)
  to k = answered_with p k switch (sides k) timed

  none_sent : (slot : ℕ) (slices : List Slice) → ((k : ℕ) → slot ≤ k → k < slot + length slices → to k ≡ []) → answered_to_all p switch sides timed slot slices ≡ []
  none_sent slot [] each = refl
  none_sent slot (slice ∷ others) each =
      ap₂ (λ (here later : List (ℕ × List ℕ)). here ++ later) (ap (addressed slot) (each slot (omega arith) (omega arith)))
      (none_sent (slot + 1) others (λ k from under. each k (omega (arith, from)) (omega (arith, under))))

  one_sent : (one : ℕ) (messages : List (List ℕ)) (slot : ℕ) (slices : List Slice) → slot ≤ one → one < slot + length slices → to one ≡ messages
      → ((k : ℕ) → k < slot + length slices → (one == k) ≡ false → to k ≡ []) → answered_to_all p switch sides timed slot slices ≡ addressed one messages
  one_sent one messages slot [] from under own others = absurd (omega (arith, from, under))
  one_sent one messages slot (slice ∷ later) from under own others =
      elim (cases_eq slot one) [
        | inl same ↦
            ap₂ (λ (here after : List (ℕ × List ℕ)). here ++ after)
            (ap (λ k. addressed k (to k)) same ∙ ap (addressed one) own)
            (none_sent (slot + 1) later (λ k past under_k. others k (omega (arith, under_k)) (ne_eqb one k (λ is. omega (arith, is, past, same)))))
            ∙ append-nil (addressed one messages)
        | inr other ↦
            ap (λ (here : List (List ℕ)). addressed slot here ++ answered_to_all p switch sides timed (slot + 1) later) (others slot (omega arith) (ne_eqb one slot (λ is. other (sym is))))
            ∙ one_sent one messages (slot + 1) later (omega (arith, from, other)) (omega (arith, under)) own (λ k under_k isnt. others k (omega (arith, under_k)) isnt)
      ]

-- ---- what changes

changes_by : (here : Bool) (slot k : ℕ) (change : Change) → (k == slot) ≡ here → of_slot slot ((k, change) ∷ []) ≡ (if here then change ∷ [] else [])
changes_by true slot k change is = rw is refl
changes_by false slot k change isnt = rw isnt refl

-- ---- both

-- what follows from items for a slice: nothing, or this turn
abbrev pub FollowsFrom : Settings → Sight → List Item → Option Turn → Type 0
FollowsFrom s sight items None = (answers_for s sight.view items ≡ []) × SlotChanges s None sight items []
FollowsFrom s sight items (Some turn) = (answers_for s sight.view items ≡ turn.messages) × IsChangeOfItems s None sight items turn.change

pub nothing_follows : (s : Settings) (sight : Sight) → FollowsFrom s sight [] None
nothing_follows s sight = (refl, λ state stands. stands)

module _ (p : PolicyView) (switch : KnownSwitch) (sides : ℕ → SliceSide) (moment : ℕ) (message : List ℕ) where
  abbrev items : ℕ → List Item
  items slot = items_of p slot switch (sides slot) (told_at moment message)

  -- what follows from a message for the slice at a slot
  abbrev pub Follows : ℕ → Option Turn → Type 0
  Follows slot turn = FollowsFrom (settings_at p slot switch.features) (sides slot).sight (items slot) turn

  -- of a turn each slice has what is its own
  abbrev pub EachFollows : Option Turn → Type 0
  EachFollows turn = (slot : ℕ) → is_slot p slot ≡ true → Follows slot (turn_at slot turn)

  abbrev changed : ℕ → List Change → Type 0
  changed slot listed = SlotChanges (settings_at p slot switch.features) None (sides slot).sight (items slot) listed

  -- a slot of no slice sees nothing
  pub unseen : (slot : ℕ) → is_slot p slot ≡ false → changed slot []
  unseen slot none =
      subst (λ (shown : List Item). SlotChanges (settings_at p slot switch.features) None (sides slot).sight shown []) (sym (items_none p slot moment switch (sides slot) message none)) (λ state stands. stands)

  own_follows : (turn : Turn) (slot : ℕ) → (turn.slot == slot) ≡ true → Follows slot (turn_at slot (Some turn)) → Follows slot (Some turn)
  own_follows turn slot is follows = subst (Follows slot) (turn_at-own slot turn is) follows

  other_follows : (turn : Turn) (slot : ℕ) → (turn.slot == slot) ≡ false → Follows slot (turn_at slot (Some turn)) → Follows slot None
  other_follows turn slot isnt follows = subst (Follows slot) (turn_at-other slot turn isnt) follows

  pub sent_turn : (turn : Option Turn) → IsWithin p turn → EachFollows turn → turn_told turn ≡ answered_to_all p switch sides (told_at moment message) 0 p.slices
  sent_turn None within each = sym (none_sent p switch sides (told_at moment message) 0 p.slices (λ k from under. (each k (lt-ltb k (length p.slices) (omega (arith, under)))).0))
  sent_turn (Some turn) within each =
      sym (one_sent p switch sides (told_at moment message) turn.slot turn.messages 0 p.slices (omega arith) (omega (arith, within))
      (own_follows turn turn.slot (eq-eqb turn.slot turn.slot refl) (each turn.slot (lt-ltb turn.slot (length p.slices) within))).0
      (λ k under isnt. (other_follows turn k isnt (each k (lt-ltb k (length p.slices) (omega (arith, under))))).0))

  by_place : (turn : Turn) (slot : ℕ) (here : Bool) → (turn.slot == slot) ≡ here → turn.slot < length p.slices → (is_slot p slot ≡ true → Follows slot (turn_at slot (Some turn)))
      → (is : Bool) → is_slot p slot ≡ is → changed slot (if here then turn.change ∷ [] else [])
  by_place turn slot true is within each true here = (own_follows turn slot is (each here)).1
  by_place turn slot false isnt within each true here = (other_follows turn slot isnt (each here)).1
  by_place turn slot true is within each false none = absurd (omega (arith, ltb-false slot (length p.slices) none, eqb-true turn.slot slot is, within))
  by_place turn slot false isnt within each false none = unseen slot none

  by_slot : (slot : ℕ) (is : Bool) → is_slot p slot ≡ is → (is_slot p slot ≡ true → Follows slot None) → changed slot []
  by_slot slot true here each = (each here).1
  by_slot slot false none each = unseen slot none

  changed_all : (turn : Option Turn) → IsWithin p turn → EachFollows turn → (slot : ℕ) → changed slot (of_slot slot (turn_changes turn))
  changed_all None within each slot = by_slot slot (is_slot p slot) refl (each slot)
  changed_all (Some turn) within each slot =
      subst (changed slot) (sym (changes_by (turn.slot == slot) slot turn.slot turn.change refl))
      (by_place turn slot (turn.slot == slot) refl within (each slot) (is_slot p slot) refl)

  pub changed_turn : (turn : Option Turn) → number_told switch.phase (SwitchMsg message) ≡ None → IsWithin p turn → EachFollows turn → AreChanges p switch sides moment message (turn_changes turn)
  changed_turn turn none within each slot =
      subst (λ (number : Option ℕ). SlotChanges (settings_at p slot switch.features) number (sides slot).sight (items slot) (of_slot slot (turn_changes turn))) (sym none) (changed_all turn within each slot)
