-- A desk after an event, by the phase of the switch's connection.
use Rattle.std.proofs.Common.{◌≡◌, ℕ, Bool, true, false, if◌then◌else◌, List, [], ◌∷◌, refl, ap, ap₂, subst, sym, ◌∙◌, true≢false, Option, Some, None}
use Rattle.std.specs.Prelude.{ltb}
use Rattle.std.proofs.lemmas.Option.{none-some}
use Rattle.of10_port.specs.declared.features.Features.{Features}
use Rattle.flowspace.specs.Policies.{PolicyView}
use Rattle.outbox.specs.Queues.{Queue, no_messages, push_all, OutboxState, QueueStands}
use Rattle.slice_words.specs.Items.{Item, End}
use Rattle.slice_words.specs.Alone.{sent_for}
use Rattle.desk_words.specs.declared.event.Timed.{Timed}
use Rattle.desk_words.specs.declared.phase.Phase.{Phase}
use Rattle.desk_words.specs.declared.phase.Phase.TheVariants.{Fresh, Begun, Opened, Gone}
use Rattle.desk_words.specs.Openings.{phase_after, opening_after, known_after, KnownSwitch, switch_after}
use Rattle.desk_words.specs.Histories.{is_slot, settings_at, SliceSide, items_of, phase_items, is_open}
use Rattle.desk_words.specs.Sent.{lane_in, put_with}
use Rattle.desk_words.specs.Verdicts.{is_ended, is_before}
use Rattle.desk_words.proofs.Alone.{none_in}
use Rattle.desk_words.specs.Operations.{slice_limit, lane_limit, empties, is_ending}
use Rattle.proxy_core.specs.declared.desk.Session.{Session}
use Rattle.proxy_core.specs.declared.desk.Desk.{Desk}
use Rattle.proxy_core.specs.Desks.{SessionStands, Opens, Body, Coherent, sides_after, up_after, queues_after, lane_after}
use Rattle.of10_model.proofs.Results.{either_none}
use Rattle.proxy_core.proofs.Lists.{within}
use Rattle.proxy_core.proofs.Standing.{passes, ends_slot, session_goes}

-- ---- slots that no slice has, and slots before the opening

pub either_empty : (b : Bool) (q : Queue) → q ≡ no_messages → (if b then no_messages else q) ≡ no_messages
either_empty true q is = refl
either_empty false q is = is

-- nothing waits after an event that shows nothing where nothing waited
empty_after : (p : PolicyView) (switch : KnownSwitch) (sides : ℕ → SliceSide) (qs : ℕ → Queue) (timed : Timed) (slot : ℕ) → items_of p slot switch (sides slot) timed ≡ [] → qs slot ≡ no_messages
    → queues_after p switch sides qs timed slot ≡ no_messages
unfolding push_all
empty_after p switch sides qs timed slot none empty =
    ap₂ (λ (q : Queue) (items : List Item). push_all slice_limit q (sent_for (settings_at p slot switch.features) (sides slot).sight.view items))
    (either_empty (empties slot (up_after p switch sides timed slot) timed.event) (qs slot) empty) none

beyond_after : (p : PolicyView) (switch : KnownSwitch) (sides : ℕ → SliceSide) (qs : ℕ → Queue) (timed : Timed) (slot : ℕ) → is_slot p slot ≡ false → qs slot ≡ no_messages
    → queues_after p switch sides qs timed slot ≡ no_messages
beyond_after p switch sides qs timed slot out empty =
    empty_after p switch sides qs timed slot (ap (λ (b : Bool). if b then phase_items p slot switch (sides slot) timed switch.phase else []) out) empty

pub body_after : (p : PolicyView) (switch : KnownSwitch) (sides : ℕ → SliceSide) (qs : ℕ → Queue) (ql : Queue) (timed : Timed) (old new : Desk)
    → Body p switch sides qs ql old → new.policy ≡ old.policy → new.phase ≡ phase_after switch.phase timed.event
    → QueueStands lane_limit (lane_after p switch sides ql timed) new.lane
    → Opens p (switch_after switch timed.event) (sides_after p switch sides timed) (queues_after p switch sides qs timed) new.session
    → Body p (switch_after switch timed.event) (sides_after p switch sides timed) (queues_after p switch sides qs timed) (lane_after p switch sides ql timed) new
body_after p switch sides qs ql timed old new b same phase lane opens = record {
  same_policy = same ∙ b.same_policy;
  phase = phase;
  lane = lane;
  opens = opens;
  beyond = λ slot out. beyond_after p switch sides qs timed slot out (b.beyond slot out);
}

-- ---- phases

-- a session of a switch that hasn't ended is one of a switch that has said what it is
opened_in : (phase : Phase) (told : Option Features) (features : Features) → (is_before phase ≡ true → told ≡ None) → told ≡ Some features → is_ended phase ≡ false → phase ≡ Opened
opened_in Fresh told features before some on = absurd (none-some features (sym (before refl) ∙ some))
opened_in Begun told features before some on = absurd (none-some features (sym (before refl) ∙ some))
opened_in Opened told features before some on = refl
opened_in Gone told features before some on = absurd (true≢false on)

pub is_opened : (p : PolicyView) (switch : KnownSwitch) (sides : ℕ → SliceSide) (qs : ℕ → Queue) (session : Session) → Coherent p switch sides → SessionStands p switch sides qs session → is_ended switch.phase ≡ false
    → switch.phase ≡ Opened
is_opened p switch sides qs session fit s on = opened_in switch.phase switch.features session.features fit.before_untold s.told on

pub shut_in : (phase : Phase) (told : Option Features) → (phase ≡ Opened → (features : Features) × (told ≡ Some features)) → told ≡ None → is_open phase ≡ false
shut_in Fresh told opens none = refl
shut_in Begun told opens none = refl
shut_in Opened told opens none = (let some = opens refl in absurd (none-some some.0 (sym none ∙ some.1)))
shut_in Gone told opens none = refl

-- before the opening there is no session after an event that doesn't open it
pub still_none : (p : PolicyView) (switch : KnownSwitch) (sides : ℕ → SliceSide) (qs : ℕ → Queue) (timed : Timed) → Coherent p switch sides → Opens p switch sides qs None
    → opening_after switch.phase None timed.event ≡ None
    → Opens p (switch_after switch timed.event) (sides_after p switch sides timed) (queues_after p switch sides qs timed) None
still_none p switch sides qs timed fit opens none = (
  ap (λ (told : Option Features). opening_after switch.phase told timed.event) opens.0 ∙ none,
  λ slot. empty_after p switch sides qs timed slot
      (either_none (is_slot p slot) (phase_items p slot switch (sides slot) timed switch.phase)
      (none_in p slot switch (sides slot) timed switch.phase (shut_in switch.phase switch.features fit.open_told opens.0) none))
      (opens.1 slot),
)

-- a session by which an event passes
pub session_passes : (p : PolicyView) (switch : KnownSwitch) (sides : ℕ → SliceSide) (qs : ℕ → Queue) (timed : Timed) (session : Session)
    → SessionStands p switch sides qs session → known_after switch.phase switch.known timed.event ≡ switch.known
    → ((slot : ℕ) → items_of p slot switch (sides slot) timed ≡ []) → ((slot : ℕ) → empties slot (up_after p switch sides timed slot) timed.event ≡ false)
    → SessionStands p (switch_after switch timed.event) (sides_after p switch sides timed) (queues_after p switch sides qs timed) session
session_passes p switch sides qs timed session s known none keeps =
    session_goes p switch sides (sides_after p switch sides timed) qs (queues_after p switch sides qs timed) timed.event session session s refl refl (s.known ∙ sym known) refl refl
    (λ slot x y gx gy. passes p switch sides qs timed slot x y (none slot) (keeps slot) (s.each slot x y gx gy))

-- a session whose switch ends
pub session_ends : (p : PolicyView) (switch : KnownSwitch) (sides : ℕ → SliceSide) (qs : ℕ → Queue) (timed : Timed) (session : Session)
    → SessionStands p switch sides qs session → known_after switch.phase switch.known timed.event ≡ switch.known
    → ((slot : ℕ) → is_slot p slot ≡ true → items_of p slot switch (sides slot) timed ≡ End ∷ []) → ((slot : ℕ) → empties slot (up_after p switch sides timed slot) timed.event ≡ false)
    → SessionStands p (switch_after switch timed.event) (sides_after p switch sides timed) (queues_after p switch sides qs timed) session
session_ends p switch sides qs timed session s known shown keeps =
    session_goes p switch sides (sides_after p switch sides timed) qs (queues_after p switch sides qs timed) timed.event session session s refl refl (s.known ∙ sym known) refl refl
    (λ slot x y gx gy. ends_slot p switch sides qs timed slot x y
    (shown slot (subst (λ (n : ℕ). ltb slot n ≡ true) s.states_count (within session.states.items slot x gx))) (keeps slot) (s.each slot x y gx gy))

-- ---- the lane

pub lane_is : (p : PolicyView) (switch : KnownSwitch) (sides : ℕ → SliceSide) (ql : Queue) (timed : Timed) (over : Bool) (messages : List (List ℕ)) (lane : OutboxState)
    → is_ending switch.phase timed.event ≡ over → lane_in (λ slot. put_with p slot switch (sides slot) timed) switch.phase timed.event ≡ messages
    → QueueStands lane_limit (push_all lane_limit (if over then no_messages else ql) messages) lane → QueueStands lane_limit (lane_after p switch sides ql timed) lane
lane_is p switch sides ql timed over messages lane ends is stands =
    subst (λ (b : Bool). QueueStands lane_limit (push_all lane_limit (if b then no_messages else ql) (lane_in (λ slot. put_with p slot switch (sides slot) timed) switch.phase timed.event)) lane) (sym ends)
    (subst (λ (m : List (List ℕ)). QueueStands lane_limit (push_all lane_limit (if over then no_messages else ql) m) lane) (sym is) stands)

pub lane_stays : (p : PolicyView) (switch : KnownSwitch) (sides : ℕ → SliceSide) (ql : Queue) (timed : Timed) (lane : OutboxState)
    → QueueStands lane_limit ql lane → is_ending switch.phase timed.event ≡ false → lane_in (λ slot. put_with p slot switch (sides slot) timed) switch.phase timed.event ≡ []
    → QueueStands lane_limit (lane_after p switch sides ql timed) lane
unfolding push_all
lane_stays p switch sides ql timed lane stands on is = lane_is p switch sides ql timed false [] lane on is stands
