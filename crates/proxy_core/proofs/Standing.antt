-- One slot after an event, and all slots.
use Rattle.std.proofs.Common.{◌≡◌, ◌≢◌, ℕ, ltb, Bool, true, false, if◌then◌else◌, List, [], ◌∷◌, length, slice_get, refl, ap, subst, sym, ◌∙◌, inl, inr, Option, Some, None}
use Rattle.std.proofs.lemmas.Bool.{cases_eq}
use Rattle.of10_port.specs.declared.features.Features.{Features}
use Rattle.flowspace.specs.Policies.{PolicyView, SwitchView}
use Rattle.flow_book.specs.declared.state.SliceState.{SliceState}
use Rattle.outbox.specs.Queues.{Queue, no_messages, push_all, OutboxState, QueueStands}
use Rattle.slice_words.specs.Items.{Item, End, is_up}
use Rattle.slice_words.specs.Alone.{with_items, sent_for}
use Rattle.slice_words.specs.Standing.{SliceStands}
use Rattle.desk_words.specs.declared.event.Event.{Event}
use Rattle.desk_words.specs.declared.event.Timed.{Timed}
use Rattle.desk_words.specs.declared.phase.Phase.{Phase}
use Rattle.desk_words.specs.declared.phase.Phase.TheVariants.{Opened}
use Rattle.desk_words.specs.Openings.{rules_of, swaps_of, opening_after, known_after, KnownSwitch, switch_after}
use Rattle.desk_words.specs.Histories.{is_slot, settings_at, SliceSide, items_of, phase_items, event_items, is_any_given, number_told, came_with, with_shown}
use Rattle.desk_words.specs.Sent.{sent_with}
use Rattle.desk_words.specs.Operations.{slice_limit, empties}
use Rattle.proxy_core.specs.declared.desk.Session.{Session}
use Rattle.proxy_core.specs.Desks.{SlotStands, SessionStands, sides_after, up_after, queues_after}
use Rattle.proxy_core.specs.Opening.{has_side_at, AtSlot}
use Rattle.desk_words.proofs.Ends.{end_sent}
use Rattle.switch_side.proofs.Standing.{end_stands}
use Rattle.proxy_core.proofs.Lists.{both_same, there, within}

-- ---- one slot

-- what a slot's state and queue are to be after an event that shows these items, and empties the queue or doesn't
abbrev pub SlotAfter : PolicyView → ℕ → KnownSwitch → SliceSide → Queue → Timed → List Item → Bool → SliceState → OutboxState → Type 0
SlotAfter p slot switch side q timed items emptied state queue =
    SliceStands (settings_at p slot switch.features) (record { view = with_items items side.sight.view; came = side.sight.came }) state
    × QueueStands slice_limit (push_all slice_limit (if emptied then no_messages else q) (sent_for (settings_at p slot switch.features) side.sight.view items)) queue

-- items that give no packet bring no number
same_came : (number : Option ℕ) (items : List Item) (came : List ℕ) → is_any_given items ≡ false → came_with number items came ≡ came
same_came None items came none = refl
same_came (Some number) items came none = rw none refl

-- so it stands after the event
pub slot_after : (p : PolicyView) (switch : KnownSwitch) (sides : ℕ → SliceSide) (qs : ℕ → Queue) (timed : Timed) (slot : ℕ) (items : List Item) (emptied : Bool) (state : SliceState) (queue : OutboxState)
    → items_of p slot switch (sides slot) timed ≡ items → is_any_given items ≡ false → empties slot (up_after p switch sides timed slot) timed.event ≡ emptied
    → SlotAfter p slot switch (sides slot) (qs slot) timed items emptied state queue
    → SlotStands p slot switch (sides_after p switch sides timed slot) (queues_after p switch sides qs timed slot) state queue
slot_after p switch sides qs timed slot items emptied state queue shown none emptying after = record {
  state_stands = subst (λ (is : List Item). SliceStands (settings_at p slot switch.features) (with_shown switch.phase timed is (sides slot)).sight state) (sym shown)
      (subst (λ (came : List ℕ). SliceStands (settings_at p slot switch.features) (record { view = with_items items (sides slot).sight.view; came = came }) state) (sym (same_came (number_told switch.phase timed.event) items (sides slot).sight.came none)) after.0);
  queue_stands =
      subst (λ (b : Bool). QueueStands slice_limit (push_all slice_limit (if b then no_messages else qs slot) (sent_with p slot switch (sides slot) timed)) queue) (sym emptying)
      (subst (λ (is : List Item). QueueStands slice_limit (push_all slice_limit (if emptied then no_messages else qs slot) (sent_for (settings_at p slot switch.features) (sides slot).sight.view is)) queue) (sym shown) after.1);
}

-- an event that shows nothing and empties nothing passes by
pub passes : (p : PolicyView) (switch : KnownSwitch) (sides : ℕ → SliceSide) (qs : ℕ → Queue) (timed : Timed) (slot : ℕ) (state : SliceState) (queue : OutboxState)
    → items_of p slot switch (sides slot) timed ≡ [] → empties slot (up_after p switch sides timed slot) timed.event ≡ false
    → SlotStands p slot switch (sides slot) (qs slot) state queue
    → SlotStands p slot switch (sides_after p switch sides timed slot) (queues_after p switch sides qs timed slot) state queue
unfolding push_all
passes p switch sides qs timed slot state queue shown emptying stands =
    slot_after p switch sides qs timed slot [] false state queue shown refl emptying (stands.state_stands, stands.queue_stands)

-- the end of the switch is seen, and nothing is sent for it
pub ends_slot : (p : PolicyView) (switch : KnownSwitch) (sides : ℕ → SliceSide) (qs : ℕ → Queue) (timed : Timed) (slot : ℕ) (state : SliceState) (queue : OutboxState)
    → items_of p slot switch (sides slot) timed ≡ End ∷ [] → empties slot (up_after p switch sides timed slot) timed.event ≡ false
    → SlotStands p slot switch (sides slot) (qs slot) state queue
    → SlotStands p slot switch (sides_after p switch sides timed slot) (queues_after p switch sides qs timed slot) state queue
unfolding push_all
ends_slot p switch sides qs timed slot state queue shown emptying stands =
    slot_after p switch sides qs timed slot (End ∷ []) false state queue shown refl emptying (
      end_stands (settings_at p slot switch.features) (sides slot).sight state stands.state_stands,
      subst (λ (m : List (List ℕ)). QueueStands slice_limit (push_all slice_limit (qs slot) m) queue)
          (sym (end_sent (settings_at p slot switch.features) (sides slot).sight.view (is_up (sides slot).sight.view) refl)) stands.queue_stands,
    )

-- what an event shows after the opening
pub items_opened : (p : PolicyView) (slot : ℕ) (switch : KnownSwitch) (side : SliceSide) (timed : Timed) → switch.phase ≡ Opened
    → items_of p slot switch side timed ≡ (if is_slot p slot then event_items p slot switch side timed.moment timed.event else [])
items_opened p slot switch side timed opened =
    ap (λ (phase : Phase). if is_slot p slot then phase_items p slot switch side timed phase else []) opened

-- ---- all slots

told_stays : (phase : Phase) (told : Option Features) (features : Features) (event : Event) → told ≡ Some features → opening_after phase told event ≡ told
told_stays phase told features event is = rw is refl

-- what became of a session, where the switch has said of itself what it said before
pub session_becomes : (p : PolicyView) (switch later : KnownSwitch) (sides sides_then : ℕ → SliceSide) (qs qs_then : ℕ → Queue) (old new : Session)
    → SessionStands p switch sides qs old → later.features ≡ switch.features
    → new.policy ≡ old.policy → new.features ≡ old.features → new.ports ≡ later.known
    → length new.states.items ≡ length old.states.items → length new.queues.items ≡ length old.queues.items
    → ((slot : ℕ) (state : SliceState) (queue : OutboxState) → slice_get new.states.items slot ≡ Some state → slice_get new.queues.items slot ≡ Some queue
    → SlotStands p slot switch (sides_then slot) (qs_then slot) state queue)
    → SessionStands p later sides_then qs_then new
session_becomes p switch later sides sides_then qs qs_then old new s stay same_policy same_features same_ports same_states same_queues each = record {
  told = stay ∙ s.told ∙ ap (λ (f : Features). Some f) (sym same_features);
  slices = ap (λ (v : SwitchView). v.slices) same_policy ∙ s.slices;
  rules = ap (λ (v : SwitchView). v.rules) same_policy ∙ s.rules ∙ ap (rules_of p) (sym stay);
  swaps = ap (λ (v : SwitchView). v.swaps) same_policy ∙ s.swaps ∙ ap (swaps_of p) (sym stay);
  known = same_ports;
  states_count = same_states ∙ s.states_count;
  queues_count = same_queues ∙ s.queues_count;
  each = λ slot state queue a b.
      let one = each slot state queue a b in
      record {
        state_stands = subst (λ (told : Option Features). SliceStands (settings_at p slot told) (sides_then slot).sight state) (sym stay) one.state_stands;
        queue_stands = one.queue_stands;
      };
}

pub session_goes : (p : PolicyView) (switch : KnownSwitch) (sides sides_then : ℕ → SliceSide) (qs qs_then : ℕ → Queue) (event : Event) (old new : Session)
    → SessionStands p switch sides qs old
    → new.policy ≡ old.policy → new.features ≡ old.features → new.ports ≡ known_after switch.phase switch.known event
    → length new.states.items ≡ length old.states.items → length new.queues.items ≡ length old.queues.items
    → ((slot : ℕ) (state : SliceState) (queue : OutboxState) → slice_get new.states.items slot ≡ Some state → slice_get new.queues.items slot ≡ Some queue
    → SlotStands p slot switch (sides_then slot) (qs_then slot) state queue)
    → SessionStands p (switch_after switch event) sides_then qs_then new
session_goes p switch sides sides_then qs qs_then event old new s =
    session_becomes p switch (switch_after switch event) sides sides_then qs qs_then old new s (told_stays switch.phase switch.features old.features event s.told)

-- each slot of a session of which one slot changed
pub at_each : (P : ℕ → SliceState → OutboxState → Type 0) (slot : ℕ) (Becomes : SliceState → OutboxState → SliceState → OutboxState → Type 0) (old new : Session) → AtSlot slot Becomes old new
    → ((a : SliceState) (b : OutboxState) (x : SliceState) (y : OutboxState) → slice_get old.states.items slot ≡ Some a → slice_get old.queues.items slot ≡ Some b → Becomes a b x y → P slot x y)
    → ((i : ℕ) (x : SliceState) (y : OutboxState) → i ≢ slot → slice_get old.states.items i ≡ Some x → slice_get old.queues.items i ≡ Some y → P i x y)
    → (i : ℕ) (x : SliceState) (y : OutboxState) → slice_get new.states.items i ≡ Some x → slice_get new.queues.items i ≡ Some y → P i x y
at_each P slot Becomes old new at own others i x y gx gy = elim (cases_eq i slot) [
  | inl e ↦
      let gx2 : slice_get new.states.items slot ≡ Some x = subst (λ (k : ℕ). slice_get new.states.items k ≡ Some x) e gx in
      let gy2 : slice_get new.queues.items slot ≡ Some y = subst (λ (k : ℕ). slice_get new.queues.items k ≡ Some y) e gy in
      let a = there old.states.items slot (subst (λ (n : ℕ). ltb slot n ≡ true) at.states_count (within new.states.items slot x gx2)) in
      let b = there old.queues.items slot (subst (λ (n : ℕ). ltb slot n ≡ true) at.queues_count (within new.queues.items slot y gy2)) in
      subst (λ (k : ℕ). P k x y) (sym e) (own a.0 b.0 x y a.1 b.1 (at.own a.0 b.0 x y a.1 b.1 gx2 gy2))
  | inr far ↦ (let same = at.others i far in others i x y far (sym same.0 ∙ gx) (sym same.1 ∙ gy))
]

-- the same session, of which one slot changed and stands with its queue then
pub slot_becomes : (p : PolicyView) (switch : KnownSwitch) (sides : ℕ → SliceSide) (qs qs_then : ℕ → Queue) (slot : ℕ) (Becomes : SliceState → OutboxState → SliceState → OutboxState → Type 0) (old new : Session)
    → SessionStands p switch sides qs old → AtSlot slot Becomes old new
    → ((a : SliceState) (b : OutboxState) (x : SliceState) (y : OutboxState) → SlotStands p slot switch (sides slot) (qs slot) a b → Becomes a b x y → SlotStands p slot switch (sides slot) (qs_then slot) x y)
    → ((i : ℕ) → i ≢ slot → qs_then i ≡ qs i)
    → SessionStands p switch sides qs_then new
slot_becomes p switch sides qs qs_then slot Becomes old new s at own others =
    session_becomes p switch switch sides sides qs qs_then old new s refl at.policy at.features (at.ports ∙ s.known) at.states_count at.queues_count
    (at_each (λ i x y. SlotStands p i switch (sides i) (qs_then i) x y) slot Becomes old new at
    (λ a b x y ga gb becomes. own a b x y (s.each slot a b ga gb) becomes)
    (λ i x y far gx gy. subst (λ (q : Queue). SlotStands p i switch (sides i) q x y) (sym (others i far)) (s.each i x y gx gy)))

-- ---- one slot of a session

-- the queue beside a state
pub queue_there : (p : PolicyView) (switch : KnownSwitch) (sides : ℕ → SliceSide) (qs : ℕ → Queue) (session : Session) (slot : ℕ) (state : SliceState) → SessionStands p switch sides qs session → slice_get session.states.items slot ≡ Some state
    → (queue : OutboxState) × (slice_get session.queues.items slot ≡ Some queue) × SlotStands p slot switch (sides slot) (qs slot) state queue
queue_there p switch sides qs session slot state s g =
    let here = subst (λ (n : ℕ). ltb slot n ≡ true) s.states_count (within session.states.items slot state g) in
    let queue = there session.queues.items slot (subst (λ (n : ℕ). ltb slot n ≡ true) (sym s.queues_count) here) in
    (queue.0, queue.1, s.each slot state queue.0 g queue.1)

-- the state and the queue of a slice of the policy
pub slot_there : (p : PolicyView) (switch : KnownSwitch) (sides : ℕ → SliceSide) (qs : ℕ → Queue) (session : Session) (slot : ℕ) → SessionStands p switch sides qs session → is_slot p slot ≡ true
    → (state : SliceState) × (queue : OutboxState) × (slice_get session.states.items slot ≡ Some state) × (slice_get session.queues.items slot ≡ Some queue) × SlotStands p slot switch (sides slot) (qs slot) state queue
slot_there p switch sides qs session slot s here =
    let state = there session.states.items slot (subst (λ (n : ℕ). ltb slot n ≡ true) (sym s.states_count) here) in
    let queue = queue_there p switch sides qs session slot state.0 s state.1 in
    (state.0, queue.0, state.1, queue.1, queue.2)

-- what they became
pub change_there : (p : PolicyView) (switch : KnownSwitch) (sides : ℕ → SliceSide) (qs : ℕ → Queue) (slot : ℕ) (Becomes : SliceState → OutboxState → SliceState → OutboxState → Type 0) (old new : Session)
    → SessionStands p switch sides qs old → AtSlot slot Becomes old new → is_slot p slot ≡ true
    → (a : SliceState) × (b : OutboxState) × (x : SliceState) × (y : OutboxState) × Becomes a b x y × SlotStands p slot switch (sides slot) (qs slot) a b
change_there p switch sides qs slot Becomes old new s at here =
    let was = slot_there p switch sides qs old slot s here in
    let x = there new.states.items slot (subst (λ (n : ℕ). ltb slot n ≡ true) (sym (at.states_count ∙ s.states_count)) here) in
    let y = there new.queues.items slot (subst (λ (n : ℕ). ltb slot n ≡ true) (sym (at.queues_count ∙ s.queues_count)) here) in
    (was.0, was.1, x.0, y.0, at.own was.0 was.1 x.0 y.0 was.2 was.3 x.1 y.1, was.4)

-- a session has just the slots of its policy
pub slots_are : (p : PolicyView) (switch : KnownSwitch) (sides : ℕ → SliceSide) (qs : ℕ → Queue) (session : Session) (slot : ℕ) → SessionStands p switch sides qs session → has_side_at session slot ≡ is_slot p slot
slots_are p switch sides qs session slot s = rw (s.states_count, s.queues_count) (both_same (is_slot p slot))
