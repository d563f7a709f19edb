-- Statements about histories and operations. `src/laws.rt` has a function for each, which is proved.
use Rattle.std.specs.Prelude.{ℕ, ◌≡◌, ◌+◌, ◌==◌, ◌&&◌, ◌||◌, not, Bool, true, false, if◌then◌else◌, List, [], ◌∷◌, ◌++◌, filter, filter_map, length, map, take, reverse, slice_get, is_some, IfSome, ◌<◌, ◌≤◌, Option, Some, None, Result}
use Rattle.std.specs.declared.alloc.AllocError.{AllocError}
use Rattle.std.specs.List.{list_any, take_while, flat_map, range_with_len}
use Rattle.std.specs.Option.{option_or}
use Rattle.of10_port.specs.declared.features.Features.{Features}
use Rattle.of10_port.specs.declared.status.PortStatus.{PortStatus}
use Rattle.of10_ctl.specs.Frames.{is_bad}
use Rattle.of10_ctl.specs.Streams.{frames_of}
use Rattle.flowspace.specs.Policies.{PolicyView}
use Rattle.port_view.specs.KnownPorts.{IsAscending, known_of as known_by}
use Rattle.recording.specs.Recordings.{Told}
use Rattle.outbox.specs.Queues.{Queue, size, waiting}
use Rattle.slice_words.specs.Messages.{is_dismissing}
use Rattle.slice_words.specs.Items.{features_in, known_ports}
use Rattle.slice_words.specs.Items as items
use Rattle.slice_words.specs.Alone.{alone}
use Rattle.desk_words.specs.declared.event.Event.{Event}
use Rattle.desk_words.specs.declared.event.Event.TheVariants.{SwitchUp, SwitchMsg, SwitchDown, SliceUp, SliceMsg, SliceDown}
use Rattle.desk_words.specs.declared.event.Timed.{Timed}
use Rattle.desk_words.specs.declared.verdict.Verdict.{Verdict}
use Rattle.desk_words.specs.declared.taken.Taken.{Taken}
use Rattle.desk_words.specs.Openings.{status_told, phase_of, opening_of, ports_after, switch_of, features_in_event}
use Rattle.desk_words.specs.Histories.{is_slot, settings_at, own_ports, own_features, side_start, side_of, view_of, is_open, is_slice_up}
use Rattle.desk_words.specs.Sent.{sent_by, sent, lane_by}
use Rattle.desk_words.specs.Verdicts.{is_fresh, is_ended, is_over, is_switch_up, closes}
use Rattle.desk_words.specs.Operations.{Operation, Step, Take, takes_in, events_of, empties_slice, ends, slice_limit, lane_limit, is_slice, is_switch, queue_of, lane_of, message_taken}
use Rattle.desk_words.specs.Recorded.{is_same_stream, begins_stream, stream_before, timed_at, happenings, happens, next_of, next_after, history_of, history_at, events_in, completed, Happened, all_happened}
use Rattle.desk_words.specs.Reports.{sent_to_slice, told_over, LinePlace, lane_lines, slice_lines, name_at, speaker, close_lines, down_lines, event_lines}

-- ---- the switch's connection

-- the switch has connected
abbrev pub has_begun : List Timed → Bool
has_begun h = list_any (λ timed. is_switch_up timed.event) h

-- an event of the switch that ends its connection: the switch disconnected, or sent a message whose length field doesn't even count the header (OpenFlow 1.0.0, section 5.1)
abbrev pub is_last : Event → Bool
is_last SwitchDown = true
is_last (SwitchMsg message) = is_bad message
is_last event = false

-- after the switch connected such an event came
abbrev pub has_ended : List Timed → Bool
has_ended [] = false
has_ended (timed ∷ h) = has_ended h || (has_begun h && is_last timed.event)

-- what the switch said of itself first, after it connected and before it ended
abbrev pub first_told : List Timed → Option Features
first_told [] = None
first_told (timed ∷ h) = option_or (first_told h) (if has_begun h && not (has_ended h) then features_in_event timed.event else None)

-- the phase and the opening of a history are those that its events say
pub record IsPhaseByEvents (h : List Timed) : Type 0 where
  pub fresh : is_fresh (phase_of h) ≡ not (has_begun h)
  pub ended : is_ended (phase_of h) ≡ has_ended h
  pub opening : opening_of h ≡ first_told h
  pub open_then : is_open (phase_of h) ≡ (is_some (first_told h) && not (has_ended h))

-- ---- a slice alone

-- what a slice is sent is what a proxy sends that serves it alone, with its settings and its view
abbrev pub IsAlone : PolicyView → ℕ → List Timed → Type 0
IsAlone policy slot h = sent policy slot h ≡ alone (settings_at policy slot (opening_of h)) (view_of policy slot h)

-- two policies and histories with the same settings and the same view of a slice have it sent the same
abbrev pub AreAlike : PolicyView → ℕ → List Timed → PolicyView → ℕ → List Timed → Type 0
AreAlike policy slot h other_policy other_slot other_h =
    settings_at policy slot (opening_of h) ≡ settings_at other_policy other_slot (opening_of other_h)
    → view_of policy slot h ≡ view_of other_policy other_slot other_h
    → sent policy slot h ≡ sent other_policy other_slot other_h

-- ---- other slices

-- an event of the connection of another slice
abbrev pub is_others : ℕ → Event → Bool
is_others slot (SliceUp other) = not (other == slot)
is_others slot (SliceMsg other message) = not (other == slot)
is_others slot (SliceDown other) = not (other == slot)
is_others slot event = false

-- a history without them
abbrev pub erased : ℕ → List Timed → List Timed
erased slot h = filter (λ timed. not (is_others slot timed.event)) h

-- of two histories the slice at a slot sees the same and is sent the same
pub record IsServedTheSame (policy : PolicyView) (slot : ℕ) (g h : List Timed) : Type 0 where
  pub switch : switch_of g ≡ switch_of h
  pub side : side_of policy slot g ≡ side_of policy slot h
  pub sends : sent policy slot g ≡ sent policy slot h

-- nothing that other slices do changes what a slice sees or is sent
abbrev pub IsErasable : PolicyView → ℕ → List Timed → Type 0
IsErasable policy slot h = IsServedTheSame policy slot (erased slot h) h

-- ---- before the opening, and while a slice is down

-- before the switch says what it is, a slice sees nothing
abbrev pub IsBlindBefore : PolicyView → ℕ → List Timed → Type 0
IsBlindBefore policy slot h = opening_of h ≡ None → side_of policy slot h ≡ side_start

-- the slice's connection comes
abbrev pub is_up_of : ℕ → Timed → Bool
is_up_of slot timed = elim timed.event [
  | SliceUp other ↦ other == slot
  | SwitchUp ↦ false
  | SwitchMsg message ↦ false
  | SwitchDown ↦ false
  | SliceMsg other message ↦ false
  | SliceDown other ↦ false
]

-- nothing is sent to a slice by these later events, and it isn't up after them
pub record AreSilent (policy : PolicyView) (slot : ℕ) (later h : List Timed) : Type 0 where
  pub silent : sent policy slot (later ++ h) ≡ sent policy slot h
  pub still_down : is_slice_up policy slot (later ++ h) ≡ false

-- a slice that isn't up is sent nothing until its connection comes, and isn't up until then
abbrev pub IsSilentUntilUp : PolicyView → ℕ → List Timed → List Timed → Type 0
IsSilentUntilUp policy slot later h =
    is_slice_up policy slot h ≡ false → list_any (is_up_of slot) later ≡ false → AreSilent policy slot later h

-- a slice isn't up after its down
abbrev pub IsDownAfterDown : PolicyView → ℕ → ℕ → List Timed → Type 0
IsDownAfterDown policy slot moment h = is_slice_up policy slot (timed_at moment (SliceDown slot) ∷ h) ≡ false

-- ---- who is up, by the events

-- the events that came after the switch had said what it is
abbrev pub after_opening : List Timed → List Timed
after_opening [] = []
after_opening (timed ∷ h) = if is_open (phase_of h) then timed ∷ after_opening h else after_opening h

-- an event says that the slice connected, disconnected, or sent a message that ends its connection
abbrev pub tells_of : ℕ → Event → Bool
tells_of slot (SliceUp other) = other == slot
tells_of slot (SliceMsg other message) = other == slot && is_dismissing message
tells_of slot (SliceDown other) = other == slot
tells_of slot event = false

-- the newest of these events is an up
abbrev pub is_last_event_up : ℕ → List Timed → Bool
is_last_event_up slot [] = false
is_last_event_up slot (timed ∷ before) = is_up_of slot timed

-- a slice is up where the switch has said what it is and hasn't ended, and the last event since that says so is the slice's up
abbrev pub IsUpByEvents : PolicyView → ℕ → List Timed → Type 0
IsUpByEvents policy slot h =
    is_slot policy slot ≡ true
    → is_slice_up policy slot h ≡ (is_open (phase_of h) && is_last_event_up slot (filter (λ timed. tells_of slot timed.event) (after_opening h)))

-- ---- what is taken

-- the message that a take was answered by, or none
abbrev pub message_in : Taken → List (List ℕ)
message_in taken = elim (message_taken taken) [ None ↦ [] | Some message ↦ message ∷ [] ]

-- what a slice was sent since its queue was last emptied
abbrev pub sent_since : PolicyView → ℕ → List Operation → List (List ℕ)
sent_since policy slot [] = []
sent_since policy slot (Step timed reply ∷ before) =
    if takes_in reply then (if empties_slice policy slot (events_of before) timed then [] else sent_since policy slot before) ++ sent_by policy slot (events_of before) timed
    else sent_since policy slot before
sent_since policy slot (Take dest taken ∷ before) = sent_since policy slot before

-- what was taken for it since then
abbrev pub taken_since : PolicyView → ℕ → List Operation → List (List ℕ)
taken_since policy slot [] = []
taken_since policy slot (Step timed reply ∷ before) =
    if takes_in reply then (if empties_slice policy slot (events_of before) timed then [] else taken_since policy slot before)
    else taken_since policy slot before
taken_since policy slot (Take dest taken ∷ before) = if is_slice slot dest then taken_since policy slot before ++ message_in taken else taken_since policy slot before

-- what the switch was sent since its queue was last emptied
abbrev pub lane_since : PolicyView → List Operation → List (List ℕ)
lane_since policy [] = []
lane_since policy (Step timed reply ∷ before) =
    if takes_in reply then (if ends (events_of before) timed then [] else lane_since policy before) ++ lane_by policy (events_of before) timed
    else lane_since policy before
lane_since policy (Take dest taken ∷ before) = lane_since policy before

-- what was taken for the switch since then
abbrev pub lane_taken_since : PolicyView → List Operation → List (List ℕ)
lane_taken_since policy [] = []
lane_taken_since policy (Step timed reply ∷ before) =
    if takes_in reply then (if ends (events_of before) timed then [] else lane_taken_since policy before) else lane_taken_since policy before
lane_taken_since policy (Take dest taken ∷ before) = if is_switch dest then lane_taken_since policy before ++ message_in taken else lane_taken_since policy before

-- what was sent is what was taken, what waits, and what was dropped, in this order; nothing was dropped unless the queue is choked
pub record AreInOrder (messages taken : List (List ℕ)) (q : Queue) : Type 0 where
  pub dropped : List (List ℕ)
  pub order : taken ++ (q.pending ++ dropped) ≡ messages
  pub kept : q.choked ≡ false → dropped ≡ []

-- where there is room all messages wait: alone where the queue is emptied for them, else behind those of a queue that isn't choked
pub record AllWait (limit : ℕ) (empties : Bool) (messages : List (List ℕ)) (old new : Queue) : Type 0 where
  pub alone : empties ≡ true → size messages ≤ limit → new ≡ waiting messages
  pub behind : empties ≡ false → old.choked ≡ false → size old.pending + size messages ≤ limit → new ≡ waiting (old.pending ++ messages)

-- so it is for a slice at a step that is taken in
abbrev pub SliceWaits : PolicyView → ℕ → List Operation → Timed → Result Verdict AllocError → Type 0
SliceWaits policy slot before timed reply =
    takes_in reply ≡ true
    → AllWait slice_limit (empties_slice policy slot (events_of before) timed) (sent_by policy slot (events_of before) timed) (queue_of policy slot before) (queue_of policy slot (Step timed reply ∷ before))

-- and for the switch
abbrev pub LaneWaits : PolicyView → List Operation → Timed → Result Verdict AllocError → Type 0
LaneWaits policy before timed reply =
    takes_in reply ≡ true
    → AllWait lane_limit (ends (events_of before) timed) (lane_by policy (events_of before) timed) (lane_of policy before) (lane_of policy (Step timed reply ∷ before))

-- ---- streams

-- the records of a record's connection before it, since that began, the oldest first
abbrev pub connection_before : Told → List Told → List Told
connection_before r before = reverse (filter (is_same_stream r) (take_while (λ other. not (begins_stream r other)) before))

-- the bytes before a record are those of its connection's records since that began; and the frames of these bytes, then those that the record completes, are the frames with its own bytes
pub record AreCompletedOnce (r : Told) (before : List Told) : Type 0 where
  pub bytes : stream_before r before ≡ flat_map (λ other. other.bytes) (connection_before r before)
  pub frames : frames_of (stream_before r before) ++ completed r before ≡ frames_of (stream_before r before ++ r.bytes)

-- ---- what a slice has seen of its switch

-- by its view a slice has seen these features of its switch, and of these ports, which are known, it knows its own
pub record HasSeen (policy : PolicyView) (slot : ℕ) (features : Features) (known : List (List ℕ)) (view : List items.Item) : Type 0 where
  pub features_seen : features_in view ≡ Some (own_features (settings_at policy slot (Some features)) features)
  pub ports_known : known_ports view ≡ own_ports (settings_at policy slot (Some features)) known

-- so it is for each slice of the policy once the switch has said what it is
abbrev pub SeesItsSwitch : PolicyView → ℕ → List Timed → Features → Type 0
SeesItsSwitch policy slot h features = opening_of h ≡ Some features → is_slot policy slot ≡ true → HasSeen policy slot features (ports_after h) (view_of policy slot h)

-- the known ports ascend, and fit a FEATURES_REPLY where those of the opening do
pub record AreKnownInOrder (h : List Timed) : Type 0 where
  pub ascending : IsAscending (ports_after h)
  pub few : IfSome (opening_of h) (λ features. length features.ports ≤ 1364) → length (ports_after h) ≤ 1364

-- ---- the known ports, by the events

-- what an event reports of a port (section 5.4.3)
abbrev pub status_in_event : Event → Option PortStatus
status_in_event (SwitchMsg message) = status_told message
status_in_event event = None

-- the statuses that the switch sent since it said what it is, newest first
abbrev pub statuses_since : List Timed → List PortStatus
statuses_since h = filter_map (λ timed. status_in_event timed.event) (after_opening h)

-- no port is known before the switch says what it is; then those are known that follow from its features and its statuses since
pub record AreKnownAsTold (h : List Timed) : Type 0 where
  pub before : opening_of h ≡ None → ports_after h ≡ []
  pub since : (features : Features) → opening_of h ≡ Some features → ports_after h ≡ known_by features (statuses_since h)

-- ---- the events of a recording

-- the history after the first of what a record can make happen
abbrev pub after_first : PolicyView → Told → List Told → ℕ → List Timed
after_first policy r before k = next_after (history_at policy r before) (map (timed_at r.moment) (take k (happenings r before)))

-- a record's events are the first of what it can make happen: each of them happens after those before it, and where any is left the next one doesn't
pub record MakesTheFirst (policy : PolicyView) (r : Told) (before : List Told) : Type 0 where
  pub count : ℕ
  pub within : count ≤ length (happenings r before)
  pub events : events_in policy r before ≡ map (timed_at r.moment) (take count (happenings r before))
  pub there : (k : ℕ) (event : Event) → k < count → slice_get (happenings r before) k ≡ Some event → happens policy (after_first policy r before k) event ≡ true
  pub gone : (event : Event) → slice_get (happenings r before) count ≡ Some event → happens policy (after_first policy r before count) event ≡ false

-- a history gets the first of events that come one after another: it isn't over before each of them, and is over after them where any is left
pub record GetsTheFirst (h events : List Timed) : Type 0 where
  pub count : ℕ
  pub within : count ≤ length events
  pub history : next_after h events ≡ reverse (take count events) ++ h
  pub going : (k : ℕ) → k < count → is_over (reverse (take k events) ++ h) ≡ false
  pub over : count < length events → is_over (reverse (take count events) ++ h) ≡ true

-- a record's events come in the history of its switch, and the history of every other switch stays
pub record ComeAtTheirSwitch (policy : PolicyView) (r : Told) (before : List Told) : Type 0 where
  pub own : history_of policy r.switch (r ∷ before) ≡ next_after (history_at policy r before) (events_in policy r before)
  pub others : (switch : ℕ) → (r.switch == switch) ≡ false → history_of policy switch (r ∷ before) ≡ history_of policy switch before

-- ---- the report of a recording

-- as many of a recording's first events as its first records make
abbrev pub first_events : PolicyView → List Told → List Told → List Happened
first_events policy earlier later = take (length (all_happened policy earlier)) (all_happened policy (earlier ++ later))

-- the events of a recording's first records are the first of all its events, whatever records come behind them
abbrev pub ComeBeforeLater : PolicyView → List Told → List Told → Type 0
ComeBeforeLater policy earlier later = first_events policy earlier later ≡ all_happened policy earlier

-- the lines of an event are those for the switch, and by slot those of each slice's name for what it is sent; then the connection that is closed, and the end
abbrev pub ShowsEachSlice : PolicyView → LinePlace → List Timed → Timed → Type 0
ShowsEachSlice policy place h timed =
    event_lines policy place h timed
    ≡ (if is_over h then [] else lane_lines place (lane_by policy h timed))
    ++ flat_map (λ slot. slice_lines place slot (name_at policy.slices slot) (sent_to_slice policy slot h timed)) (range_with_len 0 (length policy.slices))
    ++ close_lines policy place (next_of h timed) timed.event
    ++ (if is_over h then [] else down_lines place h timed)

-- the slice that connected or sent a message is up after that, unless its connection is to be closed
abbrev pub IsClosedByVerdict : PolicyView → ℕ → List Timed → Timed → Type 0
IsClosedByVerdict policy slot h timed = speaker timed.event ≡ Some slot → is_slice_up policy slot (timed ∷ h) ≡ not (closes policy h timed)

-- a switch connects
abbrev pub comes_up : ℕ → Happened → Bool
comes_up switch one = one.switch == switch && is_switch_up one.timed.event

-- of these events those of a switch from its last up on
abbrev pub since_up : ℕ → List Happened → List Happened
since_up switch [] = []
since_up switch (one ∷ later) = if one.switch == switch && not (list_any (comes_up switch) later) then one ∷ since_up switch later else since_up switch later

-- what these events of records send a slice from a switch's last up on is what a proxy sends that serves it alone, with its settings on its view of the switch's history
abbrev pub TellAsAlone : PolicyView → ℕ → ℕ → List Told → List Happened → Type 0
TellAsAlone policy slot switch records events =
    let h = history_of policy switch (reverse records) in
    told_over policy slot (since_up switch events) ≡ alone (settings_at policy slot (opening_of h)) (view_of policy slot h)

-- so it is of all that happened in a recording
abbrev pub IsToldAsAlone : PolicyView → ℕ → ℕ → List Told → Type 0
IsToldAsAlone policy slot switch records = TellAsAlone policy slot switch records (all_happened policy records)
