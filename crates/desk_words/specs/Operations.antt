-- What a desk was asked to do, and what it must answer: steps, which are events, and takes, which are questions for the oldest message that waits. Lists have the newest first. All of this is this proxy's own rule.
use Rattle.std.specs.Prelude.{ℕ, ◌≡◌, ◌==◌, ◌&&◌, ◌||◌, not, Bool, true, false, if◌then◌else◌, List, [], ◌∷◌, Option, Some, None, Result, Ok, Err}
use Rattle.std.specs.declared.alloc.AllocError.{AllocError}
use Rattle.flowspace.specs.Policies.{PolicyView}
use Rattle.outbox.specs.Queues.{Queue, no_messages, push_all, without_first}
use Rattle.desk_words.specs.declared.event.Event.{Event}
use Rattle.desk_words.specs.declared.event.Event.TheVariants.{SliceUp, SliceDown}
use Rattle.desk_words.specs.declared.event.Timed.{Timed}
use Rattle.desk_words.specs.declared.dest.Dest.{Dest}
use Rattle.desk_words.specs.declared.dest.Dest.TheVariants.{Switch, Slice}
use Rattle.desk_words.specs.declared.verdict.Verdict.{Verdict}
use Rattle.desk_words.specs.declared.verdict.Verdict.TheVariants as verdicts
use Rattle.desk_words.specs.declared.taken.Taken.{Taken}
use Rattle.desk_words.specs.declared.taken.Taken.TheVariants.{Message, Nothing, Choked, Ended, NotOpen}
use Rattle.desk_words.specs.declared.phase.Phase.{Phase}
use Rattle.desk_words.specs.Openings.{phase_after, phase_of}
use Rattle.desk_words.specs.Histories.{is_slot, is_open, is_slice_up}
use Rattle.desk_words.specs.Sent.{sent_by, lane_by}
use Rattle.desk_words.specs.Verdicts.{is_fresh, is_ended, is_down, verdict}

-- an operation with its reply
pub data Operation : Type 0 where
  Step : Timed → Result Verdict AllocError → Operation
  Take : Dest → Taken → Operation

-- ---- events

-- a step is taken in unless memory ran out or the desk has ended
abbrev pub takes_in : Result Verdict AllocError → Bool
takes_in (Err fault) = false
takes_in (Ok verdicts.Ended) = false
takes_in (Ok verdict) = true

-- the history of a desk: the events of the steps that it took in
abbrev pub events_of : List Operation → List Timed
events_of [] = []
events_of (Step timed reply ∷ before) = if takes_in reply then timed ∷ events_of before else events_of before
events_of (Take dest taken ∷ before) = events_of before

-- ---- what waits

-- how many bytes may wait for a slice
abbrev pub slice_limit : ℕ
slice_limit = 4194304

-- how many may wait for the switch
abbrev pub lane_limit : ℕ
lane_limit = 1048576

-- an event empties the queue of the slice at a slot, which is so up after it: its connection ended, or it came and is up
abbrev pub empties : ℕ → Bool → Event → Bool
empties slot up (SliceDown other) = other == slot
empties slot up (SliceUp other) = other == slot && up
empties slot up event = false

-- the same of an event after a history
abbrev pub empties_slice : PolicyView → ℕ → List Timed → Timed → Bool
empties_slice policy slot h timed = empties slot (is_slice_up policy slot (timed ∷ h)) timed.event

-- an event ends the switch's connection, which is in a phase before it, and so empties its queue
abbrev pub is_ending : Phase → Event → Bool
is_ending before event = not (is_ended before) && is_ended (phase_after before event)

-- the same of an event after a history
abbrev pub ends : List Timed → Timed → Bool
ends h timed = is_ending (phase_of h) timed.event

-- what waits for the slice at a slot after an event that sends it these messages, where it is so up after it
abbrev pub queue_with : ℕ → Bool → Event → List (List ℕ) → Queue → Queue
queue_with slot up event messages q = push_all slice_limit (if empties slot up event then no_messages else q) messages

-- what waits for the switch after an event in a phase that sends it these messages
abbrev pub lane_with : Phase → Event → List (List ℕ) → Queue → Queue
lane_with phase event messages q = push_all lane_limit (if is_ending phase event then no_messages else q) messages

-- the same of an event after a history
abbrev pub queue_event : PolicyView → ℕ → List Timed → Timed → Queue → Queue
queue_event policy slot h timed q = queue_with slot (is_slice_up policy slot (timed ∷ h)) timed.event (sent_by policy slot h timed) q

abbrev pub lane_event : PolicyView → List Timed → Timed → Queue → Queue
lane_event policy h timed q = lane_with (phase_of h) timed.event (lane_by policy h timed) q

-- what waits for a destination after a take: less its first message where it was the one that was asked for
abbrev pub less_taken : Bool → Queue → Queue
less_taken own q = if own then without_first q else q

-- a destination is the switch
abbrev pub is_switch : Dest → Bool
is_switch Switch = true
is_switch (Slice slot) = false

-- it is the slice at a slot
abbrev pub is_slice : ℕ → Dest → Bool
is_slice slot Switch = false
is_slice slot (Slice other) = other == slot

-- what waits for the slice at a slot after these operations: what it was sent, less what was taken
abbrev pub queue_of : PolicyView → ℕ → List Operation → Queue
queue_of policy slot [] = no_messages
queue_of policy slot (Step timed reply ∷ before) = if takes_in reply then queue_event policy slot (events_of before) timed (queue_of policy slot before) else queue_of policy slot before
queue_of policy slot (Take dest taken ∷ before) = less_taken (is_slice slot dest) (queue_of policy slot before)

-- what waits for the switch after these operations
abbrev pub lane_of : PolicyView → List Operation → Queue
lane_of policy [] = no_messages
lane_of policy (Step timed reply ∷ before) = if takes_in reply then lane_event policy (events_of before) timed (lane_of policy before) else lane_of policy before
lane_of policy (Take dest taken ∷ before) = less_taken (is_switch dest) (lane_of policy before)

-- what waits for a destination, where so much waits for the slices and for the switch
abbrev pub waiting_in : Dest → (ℕ → Queue) → Queue → Queue
waiting_in Switch queues lane = lane
waiting_in (Slice slot) queues lane = queues slot

-- what waits for it after these operations
abbrev pub waiting_of : PolicyView → Dest → List Operation → Queue
waiting_of policy dest before = waiting_in dest (λ slot. queue_of policy slot before) (lane_of policy before)

-- ---- replies

-- the message that a take was answered by, if it was
abbrev pub message_taken : Taken → Option (List ℕ)
message_taken (Message message) = Some message
message_taken taken = None

-- no message will come for a destination, where the switch's connection is in a phase and those of the slices are so up. The switch's connection has ended, there is no such slot, or the slice isn't up though the switch has said what it is
abbrev pub is_gone : PolicyView → Phase → (ℕ → Bool) → Dest → Bool
is_gone policy phase slice_up Switch = is_ended phase
is_gone policy phase slice_up (Slice slot) = is_ended phase || not (is_slot policy slot) || (is_open phase && not (slice_up slot))

-- it is too early for a destination: the switch hasn't connected, or for a slice hasn't said what it is
abbrev pub is_early : Phase → Dest → Bool
is_early phase Switch = is_fresh phase
is_early phase (Slice slot) = not (is_open phase)

-- what is answered where nothing waits
abbrev pub why_none : PolicyView → Phase → (ℕ → Bool) → Dest → Bool → Taken
why_none policy phase slice_up dest choked = if is_gone policy phase slice_up dest then Ended else if is_early phase dest then NotOpen else if choked then Choked else Nothing

-- the same after a history
abbrev pub empty_reply : PolicyView → List Timed → Dest → Bool → Taken
empty_reply policy h dest choked = why_none policy (phase_of h) (λ slot. is_slice_up policy slot h) dest choked

-- what is answered to a take: the oldest message that waits, or why there is none
abbrev pub take_reply : PolicyView → List Operation → Dest → Taken
take_reply policy before dest =
    let q = waiting_of policy dest before in
    elim q.pending [ [] ↦ empty_reply policy (events_of before) dest q.choked | message ∷ later ↦ Message message ]

-- a reply to a step is right: the verdict on its event, or out of memory unless the event is the end of a connection
abbrev pub IsReply : PolicyView → List Operation → Timed → Result Verdict AllocError → Type 0
IsReply policy before timed (Ok answered) = answered ≡ verdict policy (events_of before) timed
IsReply policy before timed (Err fault) = is_down timed.event ≡ false

-- a list of operations is legal where each reply is right by those before it
abbrev pub IsLegal : PolicyView → List Operation → Type 0
IsLegal policy [] = Unit {0}
IsLegal policy (Step timed reply ∷ before) = IsReply policy before timed reply × IsLegal policy before
IsLegal policy (Take dest taken ∷ before) = (taken ≡ take_reply policy before dest) × IsLegal policy before
