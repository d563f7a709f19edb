-- The events of a recording: what each of its records makes happen at the desk of its switch (this proxy's own rule). Records before another have the newest first.
use Rattle.std.specs.Prelude.{ℕ, ◌==◌, ◌&&◌, ◌||◌, not, Bool, true, if◌then◌else◌, List, [], ◌∷◌, ◌++◌, length, take, drop, map, reverse}
use Rattle.std.specs.List.{flat_map, enumerate_from, take_while}
use Rattle.flowspace.specs.Policies.{PolicyView}
use Rattle.of10_ctl.specs.Streams.{frames_of}
use Rattle.recording.specs.declared.item.Item.{Item}
use Rattle.recording.specs.Recordings.{Told, switch_up, switch_bytes, switch_down, slice_up, slice_bytes}
use Rattle.desk_words.specs.declared.event.Event.{Event}
use Rattle.desk_words.specs.declared.event.Event.TheVariants.{SwitchUp, SwitchMsg, SwitchDown, SliceUp, SliceMsg, SliceDown}
use Rattle.desk_words.specs.declared.event.Timed.{Timed}
use Rattle.desk_words.specs.Openings.{phase_of}
use Rattle.desk_words.specs.Histories.{is_slice_up}
use Rattle.desk_words.specs.Verdicts.{is_ended, is_over}

-- ---- streams

-- two records are of one connection: of the same switch, or of the same slice on it
abbrev pub is_same_stream : Told → Told → Bool
is_same_stream r other = other.switch == r.switch && other.kind == r.kind && other.slot == r.slot

-- a record begins the connection that another carries bytes of
abbrev pub begins_stream : Told → Told → Bool
begins_stream r other =
    other.switch == r.switch && (other.kind == switch_up || (r.kind == slice_bytes && other.kind == slice_up && other.slot == r.slot))

-- the bytes of a record's connection before it, since that began
abbrev pub stream_before : Told → List Told → List ℕ
stream_before r [] = []
stream_before r (other ∷ before) =
    if begins_stream r other then [] else if is_same_stream r other then stream_before r before ++ other.bytes else stream_before r before

-- the frames that a record completes in its connection's stream, whatever records the bytes came in
abbrev pub completed : Told → List Told → List (List ℕ)
completed r before = drop (length (frames_of (stream_before r before))) (frames_of (stream_before r before ++ r.bytes))

-- ---- events

-- an event comes at the timestamp of its record, in milliseconds
abbrev pub timed_at : ℕ → Event → Timed
timed_at moment event = record { event = event; moment = moment }

-- what a record can make happen: a connection begins or ends, or messages come
abbrev pub happenings : Told → List Told → List Event
happenings r before =
    if r.kind == switch_up then SwitchUp ∷ []
    else if r.kind == switch_bytes then map (λ frame. SwitchMsg frame) (completed r before)
    else if r.kind == switch_down then SwitchDown ∷ []
    else if r.kind == slice_up then SliceUp r.slot ∷ []
    else if r.kind == slice_bytes then map (λ frame. SliceMsg r.slot frame) (completed r before)
    else SliceDown r.slot ∷ []

-- an event happens after a history: a message is none of a switch's connection that has ended, and none of a slice that isn't up; anything else happens
abbrev pub happens : PolicyView → List Timed → Event → Bool
happens policy h (SwitchMsg message) = not (is_ended (phase_of h))
happens policy h (SliceMsg slot message) = is_slice_up policy slot h
happens policy h event = true

-- the history after an event: one that is over takes nothing in
abbrev pub next_of : List Timed → Timed → List Timed
next_of h timed = if is_over h then h else timed ∷ h

-- the history after events that come one after another
abbrev pub next_after : List Timed → List Timed → List Timed
next_after h [] = h
next_after h (timed ∷ later) = next_after (next_of h timed) later

-- ---- all that happened

-- an event of a recording: its switch, the history of that switch before it, and the event with its timestamp
pub record Happened : Type 0 where
  pub switch : ℕ
  pub history : List Timed
  pub timed : Timed

-- events that come one after another at a switch, each after the history that those before it left
abbrev pub each_after : ℕ → List Timed → List Timed → List Happened
each_after switch h events = map (λ one. record { switch = switch; history = next_after h (take one.0 events); timed = one.1 }) (enumerate_from 0 events)

-- what a record makes happen after a history: the first of what it can make happen, as long as each happens after those before it
abbrev pub happened_from : PolicyView → Told → List Told → List Timed → List Happened
happened_from policy r before h = take_while (λ one. happens policy one.history one.timed.event) (each_after r.switch h (map (timed_at r.moment) (happenings r before)))

-- these events alone, with their timestamps
abbrev pub timed_of : List Happened → List Timed
timed_of events = map (λ one. one.timed) events

-- the history at which a record of a switch begins: that of the switch, or none where the switch connects, for which there is a fresh desk
abbrev pub begun_from : Told → List Timed → List Timed
begun_from r h = if r.kind == switch_up then [] else h

-- the history of a switch after records
abbrev pub history_of : PolicyView → ℕ → List Told → List Timed
history_of policy switch [] = []
history_of policy switch (r ∷ before) =
    if r.switch == switch then
    (let h = begun_from r (history_of policy switch before) in
    next_after h (timed_of (happened_from policy r before h)))
    else history_of policy switch before

-- the history in which a record's events come
abbrev pub history_at : PolicyView → Told → List Told → List Timed
history_at policy r before = begun_from r (history_of policy r.switch before)

-- the events of a record after others
abbrev pub happened_in : PolicyView → List Told → Told → List Happened
happened_in policy before r = happened_from policy r before (history_at policy r before)

-- these events alone, with their timestamps
abbrev pub events_in : PolicyView → Told → List Told → List Timed
events_in policy r before = timed_of (happened_in policy before r)

-- all that happened in a recording, in the order of its records
unfoldable pub all_happened : PolicyView → List Told → List Happened
all_happened policy records = flat_map (λ one. happened_in policy (reverse (take one.0 records)) one.1) (enumerate_from 0 records)

-- ---- the records of a file

-- the bytes that an item of a file carries
abbrev pub bytes_carried : List ℕ → Item → List ℕ
bytes_carried file item = take item.size (drop item.from file)

-- what an item that carries these bytes says
abbrev pub told_by : Item → List ℕ → Told
told_by item bytes = record { kind = item.kind; switch = item.switch; slot = item.slot; moment = item.moment; bytes = bytes }

-- what the items of a file say
abbrev pub told_in : List ℕ → List Item → List Told
told_in file items = map (λ item. told_by item (bytes_carried file item)) items
