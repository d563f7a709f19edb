-- When a desk is the one that a list of operations makes of a policy. All of this is this proxy's own rule.
use Rattle.std.specs.Prelude.{ℕ, ◌≡◌, ◌<◌, ◌==◌, ◌&&◌, not, Bool, true, false, if◌then◌else◌, List, [], ◌∷◌, length, slice_get, Option, Some, None, option_map, Result, is_some}
use Rattle.std.specs.declared.alloc.AllocError.{AllocError}
use Rattle.flowspace.specs.Policies.{PolicyView}
use Rattle.flow_book.specs.declared.state.SliceState.{SliceState}
use Rattle.outbox.specs.Queues.{Queue, no_messages, size, OutboxState, QueueStands}
use Rattle.slice_words.specs.Standing.{SliceStands}
use Rattle.of10_port.specs.declared.features.Features.{Features}
use Rattle.desk_words.specs.declared.event.Timed.{Timed}
use Rattle.desk_words.specs.declared.phase.Phase.{Phase}
use Rattle.desk_words.specs.declared.phase.Phase.TheVariants.{Begun, Opened, Gone}
use Rattle.desk_words.specs.declared.dest.Dest.{Dest}
use Rattle.desk_words.specs.declared.dest.Dest.TheVariants.{Switch, Slice}
use Rattle.desk_words.specs.declared.taken.Taken.{Taken}
use Rattle.desk_words.specs.declared.taken.Taken.TheVariants as takens
use Rattle.desk_words.specs.declared.taken.Taken.TheVariants.{Message, NotOpen}
use Rattle.desk_words.specs.declared.verdict.Verdict.{Verdict}
use Rattle.desk_words.specs.Openings.{ends_switch, rules_of, swaps_of, opening_of, phase_of, phase_after, KnownSwitch, switch_after, switch_of}
use Rattle.desk_words.specs.Histories.{is_slot, settings_at, SliceSide, side_start, side_of, is_open, is_slice_up, side_after, is_up_in}
use Rattle.desk_words.specs.Sent.{sent_with, put_with, lane_in, echo_for}
use Rattle.desk_words.specs.Verdicts.{is_ended, is_before, is_closing}
use Rattle.desk_words.specs.Operations.{Operation, Step, Take, events_of, slice_limit, lane_limit, is_slice, is_switch, queue_of, lane_of, waiting_in, why_none, take_reply, IsReply, message_taken, queue_with, lane_with, less_taken, waiting_of}
use Rattle.desk_words.specs.Laws.{HasSeen}
use Rattle.proxy_core.specs.declared.desk.Session.{Session}
use Rattle.proxy_core.specs.declared.desk.Desk.{Desk}
use Rattle.proxy_core.specs.Slots.{HasMore, HasOnly}
use Rattle.switch_side.specs.Dispatches.{AllNumbered, told_at}

-- ---- what a desk stands for: what is known of the switch, what each slice sees, and what waits

-- the state and the queue at a slot belong to what its slice sees and to what waits for it
pub record SlotStands (policy : PolicyView) (slot : ℕ) (switch : KnownSwitch) (side : SliceSide) (q : Queue) (state : SliceState) (queue : OutboxState) : Type 0 where
  pub state_stands : SliceStands (settings_at policy slot switch.features) side.sight state
  pub queue_stands : QueueStands slice_limit q queue

-- the switch said these features first, its policy and its ports are so known, and each slot stands
pub record SessionStands (policy : PolicyView) (switch : KnownSwitch) (sides : ℕ → SliceSide) (queues : ℕ → Queue) (session : Session) : Type 0 where
  pub told : switch.features ≡ Some session.features
  pub slices : session.policy.slices ≡ policy.slices
  pub rules : session.policy.rules ≡ rules_of policy switch.features
  pub swaps : session.policy.swaps ≡ swaps_of policy switch.features
  pub known : session.ports ≡ switch.known
  pub states_count : length session.states.items ≡ length policy.slices
  pub queues_count : length session.queues.items ≡ length policy.slices
  pub each : (slot : ℕ) (state : SliceState) (queue : OutboxState) → slice_get session.states.items slot ≡ Some state → slice_get session.queues.items slot ≡ Some queue
      → SlotStands policy slot switch (sides slot) (queues slot) state queue

-- there is no session before the switch has said what it is, and nothing waits for a slice
abbrev pub Opens : PolicyView → KnownSwitch → (ℕ → SliceSide) → (ℕ → Queue) → Option Session → Type 0
Opens policy switch sides queues None = (switch.features ≡ None) × ((slot : ℕ) → queues slot ≡ no_messages)
Opens policy switch sides queues (Some session) = SessionStands policy switch sides queues session

-- all of a desk but its count of events
pub record Body (policy : PolicyView) (switch : KnownSwitch) (sides : ℕ → SliceSide) (queues : ℕ → Queue) (lane_queue : Queue) (desk : Desk) : Type 0 where
  pub same_policy : desk.policy ≡ policy
  pub phase : desk.phase ≡ switch.phase
  pub lane : QueueStands lane_limit lane_queue desk.lane
  pub opens : Opens policy switch sides queues desk.session
  pub beyond : (slot : ℕ) → is_slot policy slot ≡ false → queues slot ≡ no_messages

-- ---- what holds of every history

-- what is known of a switch and what slices see fit together
pub record Coherent (policy : PolicyView) (switch : KnownSwitch) (sides : ℕ → SliceSide) : Type 0 where
  pub open_told : switch.phase ≡ Opened → (features : Features) × (switch.features ≡ Some features)
  pub before_untold : is_before switch.phase ≡ true → switch.features ≡ None
  pub blind : switch.features ≡ None → (slot : ℕ) → sides slot ≡ side_start
  pub beyond : (slot : ℕ) → is_slot policy slot ≡ false → (sides slot).sight ≡ side_start.sight
  pub seen : (features : Features) → switch.features ≡ Some features → (slot : ℕ) → is_slot policy slot ≡ true → HasSeen policy slot features switch.known (sides slot).sight.view
  pub numbered : AllNumbered policy switch sides

-- whether each slice is up
abbrev pub up_now : KnownSwitch → (ℕ → SliceSide) → ℕ → Bool
up_now switch sides slot = is_up_in switch.phase (sides slot).sight.view

-- ---- after an event

-- what each slice sees after an event
abbrev pub sides_after : PolicyView → KnownSwitch → (ℕ → SliceSide) → Timed → ℕ → SliceSide
sides_after policy switch sides timed slot = side_after policy slot switch (sides slot) timed

-- whether each slice is up after it
abbrev pub up_after : PolicyView → KnownSwitch → (ℕ → SliceSide) → Timed → ℕ → Bool
up_after policy switch sides timed slot = is_up_in (phase_after switch.phase timed.event) (sides_after policy switch sides timed slot).sight.view

-- what waits for each slice after it
abbrev pub queues_after : PolicyView → KnownSwitch → (ℕ → SliceSide) → (ℕ → Queue) → Timed → ℕ → Queue
queues_after policy switch sides queues timed slot =
    queue_with slot (up_after policy switch sides timed slot) timed.event (sent_with policy slot switch (sides slot) timed) (queues slot)

-- what waits for the switch after it
abbrev pub lane_after : PolicyView → KnownSwitch → (ℕ → SliceSide) → Queue → Timed → Queue
lane_after policy switch sides lane_queue timed =
    lane_with switch.phase timed.event (lane_in (λ slot. put_with policy slot switch (sides slot) timed) switch.phase timed.event) lane_queue

-- whether an event closes its connection
abbrev pub closes_now : PolicyView → KnownSwitch → (ℕ → SliceSide) → Timed → Bool
closes_now policy switch sides timed = is_closing policy switch.phase (up_after policy switch sides timed) (phase_after switch.phase timed.event) timed.event

-- a desk after an event, and whether the connection goes on that the event came from
pub record Acted (policy : PolicyView) (switch : KnownSwitch) (sides : ℕ → SliceSide) (queues : ℕ → Queue) (lane_queue : Queue) (timed : Timed) (go : Bool) (desk : Desk) : Type 0 where
  pub body : Body policy (switch_after switch timed.event) (sides_after policy switch sides timed) (queues_after policy switch sides queues timed) (lane_after policy switch sides lane_queue timed) desk
  pub goes_on : go ≡ not (closes_now policy switch sides timed)

-- what the desk stood for before an event, it stands for with the event after it
abbrev pub Acts : Desk → Timed → Bool → Desk → Type 0
Acts old timed go new =
    (policy : PolicyView) (switch : KnownSwitch) (sides : ℕ → SliceSide) (queues : ℕ → Queue) (lane_queue : Queue)
    → Coherent policy switch sides → Body policy switch sides queues lane_queue old → is_ended switch.phase ≡ false → Acted policy switch sides queues lane_queue timed go new

-- the same where the switch's connection is in a phase
abbrev pub ActsIn : Phase → Desk → Timed → Bool → Desk → Type 0
ActsIn phase old timed go new =
    (policy : PolicyView) (switch : KnownSwitch) (sides : ℕ → SliceSide) (queues : ℕ → Queue) (lane_queue : Queue)
    → Coherent policy switch sides → Body policy switch sides queues lane_queue old → switch.phase ≡ phase → Acted policy switch sides queues lane_queue timed go new

-- the switch's connection ended, and nothing waits for it
pub record Ends (old new : Desk) : Type 0 where
  pub same_policy : new.policy ≡ old.policy
  pub phase : new.phase ≡ Gone
  pub lane : HasOnly [] old.lane new.lane
  pub session : new.session ≡ old.session

-- a message of the switch went to the session, or has a bad length, so that the session stands for what it stood for
abbrev pub PassedOn : PolicyView → KnownSwitch → (ℕ → SliceSide) → (ℕ → Queue) → Timed → List ℕ → Bool → Desk → Desk → Type 0
PassedOn policy switch sides queues timed message true old new =
    (ends_switch message ≡ false) × (new.policy ≡ old.policy) × (new.phase ≡ old.phase)
    × Opens policy (switch_after switch timed.event) (sides_after policy switch sides timed) (queues_after policy switch sides queues timed) new.session
    × HasMore (echo_for message) old.lane new.lane
PassedOn policy switch sides queues timed message false old new = (ends_switch message ≡ true) × (new.policy ≡ old.policy) × (new.lane ≡ old.lane) × Opens policy switch sides queues new.session

abbrev pub PassesOn : ℕ → List ℕ → Bool → Desk → Desk → Type 0
PassesOn moment message go old new =
    (policy : PolicyView) (switch : KnownSwitch) (sides : ℕ → SliceSide) (queues : ℕ → Queue) (lane_queue : Queue)
    → Coherent policy switch sides → Body policy switch sides queues lane_queue old → switch.phase ≡ Opened
    → PassedOn policy switch sides queues (told_at moment message) message go old new

-- the switch has connected and not said what it is, and the policy has a slice at the slot
abbrev pub is_begun : Phase → Bool
is_begun Begun = true
is_begun phase = false

abbrev pub is_begun_with : Phase → PolicyView → ℕ → Bool
is_begun_with phase policy slot = is_begun phase && is_slot policy slot

-- ---- takes

-- what waits after the first message of a destination was taken
abbrev pub queues_less : Dest → (ℕ → Queue) → ℕ → Queue
queues_less dest queues slot = less_taken (is_slice slot dest) (queues slot)

abbrev pub lane_less : Dest → Queue → Queue
lane_less dest lane_queue = less_taken (is_switch dest) lane_queue

-- the first message that waits for a destination was taken
pub record TookNext (policy : PolicyView) (switch : KnownSwitch) (sides : ℕ → SliceSide) (queues : ℕ → Queue) (lane_queue : Queue) (dest : Dest) (next : Option (List ℕ)) (desk : Desk) : Type 0 where
  pub first : next ≡ slice_get (waiting_in dest queues lane_queue).pending 0
  pub body : Body policy switch sides (queues_less dest queues) (lane_less dest lane_queue) desk

abbrev pub TakesNext : Desk → Dest → Option (List ℕ) → Desk → Type 0
TakesNext old dest next new =
    (policy : PolicyView) (switch : KnownSwitch) (sides : ℕ → SliceSide) (queues : ℕ → Queue) (lane_queue : Queue) → Body policy switch sides queues lane_queue old → TookNext policy switch sides queues lane_queue dest next new

-- what is said of a slice before the switch has said what it is
abbrev pub silence_before : PolicyView → ℕ → Taken
silence_before policy slot = if is_slot policy slot then NotOpen else takens.Ended

-- what there is to say of a destination for which nothing waits, by all that a desk stands for
abbrev pub IsSilence : Desk → Dest → Taken → Type 0
IsSilence desk dest taken =
    (policy : PolicyView) (switch : KnownSwitch) (sides : ℕ → SliceSide) (queues : ℕ → Queue) (lane_queue : Queue)
    → Coherent policy switch sides → Body policy switch sides queues lane_queue desk → taken ≡ why_none policy switch.phase (up_now switch sides) dest (waiting_in dest queues lane_queue).choked

-- a take was answered by a message
abbrev pub is_message : Taken → Bool
is_message taken = is_some (message_taken taken)

-- how many messages wait for a destination
abbrev pub pending_at : ℕ → Option Session → ℕ
pending_at slot None = 0
pending_at slot (Some session) = elim (slice_get session.queues.items slot) [ None ↦ 0 | Some queue ↦ length queue.pending ]

abbrev pub left : Dest → Desk → ℕ
left Switch desk = length desk.lane.pending
left (Slice slot) desk = pending_at slot desk.session

-- what the desk stood for it stands for still
abbrev pub Stays : Desk → Desk → Type 0
Stays old new = (policy : PolicyView) (switch : KnownSwitch) (sides : ℕ → SliceSide) (queues : ℕ → Queue) (lane_queue : Queue) → Body policy switch sides queues lane_queue old → Body policy switch sides queues lane_queue new

-- ---- operations

-- one message less waits where one is taken
abbrev pub Shrinks : Dest → Taken → Desk → Desk → Type 0
Shrinks dest (Message message) old new = left dest new < left dest old
Shrinks dest taken old new = Unit {0}

-- a desk stands for a policy and a list of operations: what is known of the switch, what each slice sees and how many events there were is what their events say, and what waits is what they left
pub record DeskStands (policy : PolicyView) (operations : List Operation) (desk : Desk) : Type 0 where
  pub body : Body policy (switch_of (events_of operations)) (λ slot. side_of policy slot (events_of operations)) (λ slot. queue_of policy slot operations) (lane_of policy operations) desk
  pub events : desk.events ≡ length (events_of operations)

-- the reply to a step is right, and the desk stands for the list with it
pub record Replied (policy : PolicyView) (operations : List Operation) (timed : Timed) (reply : Result Verdict AllocError) (desk : Desk) : Type 0 where
  pub right : IsReply policy operations timed reply
  pub stands : DeskStands policy (Step timed reply ∷ operations) desk

-- what is taken is what waits first, or why there is nothing, and the desk stands for the list with it
pub record Answered (policy : PolicyView) (operations : List Operation) (dest : Dest) (taken : Taken) (desk : Desk) : Type 0 where
  pub right : taken ≡ take_reply policy operations dest
  pub stands : DeskStands policy (Take dest taken ∷ operations) desk

-- for every list that a desk stands for, a step of this event is answered rightly and leaves the desk standing
abbrev pub Steps : Desk → Timed → Result Verdict AllocError → Desk → Type 0
Steps old timed reply new = (policy : PolicyView) (operations : List Operation) → DeskStands policy operations old → Replied policy operations timed reply new

-- the same of a take
abbrev pub Takes : Desk → Dest → Taken → Desk → Type 0
Takes old dest taken new = (policy : PolicyView) (operations : List Operation) → DeskStands policy operations old → Answered policy operations dest taken new

-- ---- questions

-- whether messages wait for a destination, for every list that the desk stands for
abbrev pub TellsWaiting : Desk → Dest → Bool → Type 0
TellsWaiting desk dest waits =
    (policy : PolicyView) (operations : List Operation) → DeskStands policy operations desk
    → waits ≡ not (length (waiting_of policy dest operations).pending == 0)

-- how many bytes wait for the switch, likewise
abbrev pub TellsLane : Desk → ℕ → Type 0
TellsLane desk bytes = (policy : PolicyView) (operations : List Operation) → DeskStands policy operations desk → bytes ≡ size (lane_of policy operations).pending

-- whether the switch's connection has ended, likewise
abbrev pub TellsEnd : Desk → Bool → Type 0
TellsEnd desk ended = (policy : PolicyView) (operations : List Operation) → DeskStands policy operations desk → ended ≡ is_ended (phase_of (events_of operations))

-- whether the switch is connected and has said what it is, likewise
abbrev pub TellsOpening : Desk → Bool → Type 0
TellsOpening desk open_ = (policy : PolicyView) (operations : List Operation) → DeskStands policy operations desk → open_ ≡ is_open (phase_of (events_of operations))

-- whether the slice at a slot is up, likewise
abbrev pub TellsUp : Desk → ℕ → Bool → Type 0
TellsUp desk slot up = (policy : PolicyView) (operations : List Operation) → DeskStands policy operations desk → up ≡ is_slice_up policy slot (events_of operations)

-- what is kept of the slices after a history: none before the switch has said what it is, else for each slice of the policy a state that belongs to what the slice sees
abbrev pub AreStatesAfter : PolicyView → List Timed → Option (List SliceState) → Type 0
AreStatesAfter policy h None = opening_of h ≡ None
AreStatesAfter policy h (Some states) =
    (features : Features) × (opening_of h ≡ Some features) × (length states ≡ length policy.slices)
    × ((slot : ℕ) (state : SliceState) → slice_get states slot ≡ Some state → SliceStands (settings_at policy slot (Some features)) (side_of policy slot h).sight state)

-- what is kept of the slices, for every list that the desk stands for
abbrev pub TellsStates : Desk → Option (List SliceState) → Type 0
TellsStates desk states = (policy : PolicyView) (operations : List Operation) → DeskStands policy operations desk → AreStatesAfter policy (events_of operations) states

-- the datapath id that the switch said, likewise
abbrev pub TellsDatapath : Desk → Option ℕ → Type 0
TellsDatapath desk datapath =
    (policy : PolicyView) (operations : List Operation) → DeskStands policy operations desk → datapath ≡ option_map (λ (features : Features). features.datapath) (opening_of (events_of operations))
