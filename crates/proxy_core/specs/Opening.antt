-- A session, slot by slot, and how one begins (this proxy's own rule).
use Rattle.std.specs.Prelude.{ℕ, ◌≡◌, ◌≢◌, ◌&&◌, ltb, if◌then◌else◌, Bool, true, false, List, [], length, slice_get, Option, Some, None}
use Rattle.of10_port.specs.declared.features.Features.{Features}
use Rattle.flowspace.specs.declared.slices.Slice.{Slice}
use Rattle.flowspace.specs.Order.{rules_on}
use Rattle.flowspace.specs.Policies.{PolicyView}
use Rattle.flowspace.specs.Swaps.{swaps_on}
use Rattle.port_view.specs.KnownPorts.{first_known}
use Rattle.flow_book.specs.declared.state.SliceState.{SliceState}
use Rattle.flow_book.specs.States.{IsFreshState}
use Rattle.outbox.specs.Queues.{Queue, no_messages, without_first, OutboxState, QueueStands}
use Rattle.slice_words.specs.Items.{Down}
use Rattle.desk_words.specs.declared.event.Event.TheVariants.{SwitchMsg}
use Rattle.desk_words.specs.declared.taken.Taken.{Taken}
use Rattle.desk_words.specs.declared.taken.Taken.TheVariants.{Choked, Nothing, Ended}
use Rattle.desk_words.specs.declared.phase.Phase.TheVariants.{Opened}
use Rattle.desk_words.specs.Openings.{ends_switch, KnownSwitch, switch_after}
use Rattle.desk_words.specs.Histories.{SliceSide}
use Rattle.desk_words.specs.Sent.{echo_for}
use Rattle.desk_words.specs.Operations.{slice_limit}
use Rattle.switch_side.specs.Dispatches.{told_at, AllNumbered}
use Rattle.proxy_core.specs.declared.desk.Session.{Session}
use Rattle.proxy_core.specs.Slots.{IsSeen, HasOnly, HasMore}
use Rattle.proxy_core.specs.Desks.{SessionStands, sides_after, queues_after}

-- ---- one slot

-- there is a state and a queue at a slot
abbrev pub has_side_at : Session → ℕ → Bool
has_side_at session slot = ltb slot (length session.states.items) && ltb slot (length session.queues.items)

-- the slice at a slot is up
abbrev pub is_up_at : Session → ℕ → Bool
is_up_at session slot = has_side_at session slot && elim (slice_get session.states.items slot) [ None ↦ false | Some state ↦ state.up ]

-- of a session nothing changed but what is at a slot, and of that this holds
pub record AtSlot (slot : ℕ) (Becomes : SliceState → OutboxState → SliceState → OutboxState → Type 0) (old new : Session) : Type 0 where
  pub policy : new.policy ≡ old.policy
  pub features : new.features ≡ old.features
  pub ports : new.ports ≡ old.ports
  pub states_count : length new.states.items ≡ length old.states.items
  pub queues_count : length new.queues.items ≡ length old.queues.items
  pub own : (a : SliceState) (b : OutboxState) (x : SliceState) (y : OutboxState) → slice_get old.states.items slot ≡ Some a → slice_get old.queues.items slot ≡ Some b
      → slice_get new.states.items slot ≡ Some x → slice_get new.queues.items slot ≡ Some y → Becomes a b x y
  pub others : (i : ℕ) → i ≢ slot → (slice_get new.states.items i ≡ slice_get old.states.items i) × (slice_get new.queues.items i ≡ slice_get old.queues.items i)

-- the slice's connection ended, and nothing waits
abbrev pub Goes : SliceState → OutboxState → SliceState → OutboxState → Type 0
Goes old_state old new_state new = IsSeen Down old_state new_state × HasOnly [] old new

-- the first message was taken, and the state is as it was
abbrev pub IsNext : Option (List ℕ) → SliceState → OutboxState → SliceState → OutboxState → Type 0
IsNext next old_state old new_state new =
    (new_state ≡ old_state) × ((limit : ℕ) (q : Queue) → QueueStands limit q old → (next ≡ slice_get q.pending 0) × QueueStands limit (without_first q) new)

-- what there is to say of a slice for which nothing waits
abbrev pub silence_at : ℕ → Session → Taken
silence_at slot session =
    if is_up_at session slot then elim (slice_get session.queues.items slot) [ None ↦ Ended | Some queue ↦ if queue.choked then Choked else Nothing ] else Ended

-- ---- a message of the switch

-- a message of the switch was carried out, or has a bad length, so that the session stands for what it stood for
abbrev pub CarriedOut : PolicyView → KnownSwitch → (ℕ → SliceSide) → (ℕ → Queue) → ℕ → List ℕ → Bool → Session → OutboxState → Session → OutboxState → Type 0
CarriedOut policy switch sides queues moment message true old lane new new_lane =
    (ends_switch message ≡ false)
    × SessionStands policy (switch_after switch (SwitchMsg message)) (sides_after policy switch sides (told_at moment message)) (queues_after policy switch sides queues (told_at moment message)) new
    × HasMore (echo_for message) lane new_lane
CarriedOut policy switch sides queues moment message false old lane new new_lane = (ends_switch message ≡ true) × SessionStands policy switch sides queues new × (new_lane ≡ lane)

-- what a session that has said what it is makes of a message of the switch
abbrev pub Carries : ℕ → List ℕ → Bool → Session → OutboxState → Session → OutboxState → Type 0
Carries moment message on old lane new new_lane =
    (policy : PolicyView) (switch : KnownSwitch) (sides : ℕ → SliceSide) (queues : ℕ → Queue) → switch.phase ≡ Opened → AllNumbered policy switch sides → SessionStands policy switch sides queues old
    → CarriedOut policy switch sides queues moment message on old lane new new_lane

-- what a session stood for it stands for still
abbrev pub StandsOn : Session → Session → Type 0
StandsOn old new = (policy : PolicyView) (switch : KnownSwitch) (sides : ℕ → SliceSide) (queues : ℕ → Queue) → SessionStands policy switch sides queues old → SessionStands policy switch sides queues new

-- ---- the opening

-- as many states as slices, each a fresh one of its slice
pub record AreFresh (slices : List Slice) (states : List SliceState) : Type 0 where
  pub count : length states ≡ length slices
  pub each : (slot : ℕ) (slice : Slice) (state : SliceState) → slice_get slices slot ≡ Some slice → slice_get states slot ≡ Some state → IsFreshState slot slice state

-- so many queues, and nothing waits in any
pub record AreEmpty (count : ℕ) (queues : List OutboxState) : Type 0 where
  pub total : length queues ≡ count
  pub each : (slot : ℕ) (queue : OutboxState) → slice_get queues slot ≡ Some queue → QueueStands slice_limit no_messages queue

-- a session as the switch's features begin it
pub record Begins (policy : PolicyView) (features : Features) (session : Session) : Type 0 where
  pub told : session.features ≡ features
  pub slices : session.policy.slices ≡ policy.slices
  pub rules : session.policy.rules ≡ rules_on features.datapath policy.rules
  pub swaps : session.policy.swaps ≡ swaps_on features.datapath policy.swaps
  pub known : session.ports ≡ first_known features.ports
  pub states : AreFresh policy.slices session.states.items
  pub queues : AreEmpty (length policy.slices) session.queues.items
