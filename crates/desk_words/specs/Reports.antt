-- The report of a recording: of all that happened, a line for each message that is sent (this proxy's own rule). A summary, which counts the same messages and their bytes, stands in `run_words`.
use Rattle.std.specs.Prelude.{ℕ, not, Bool, if◌then◌else◌, List, [], ◌∷◌, ◌++◌, length, map, slice_get, Option, Some, None, codes, decimal}
use Rattle.std.specs.List.{flat_map, enumerate_from}
use Rattle.hex.specs.Hex.{encode_lower}
use Rattle.flowspace.specs.declared.slices.Slice.{Slice}
use Rattle.flowspace.specs.Policies.{PolicyView}
use Rattle.recording.specs.Recordings.{Told}
use Rattle.desk_words.specs.declared.event.Event.{Event}
use Rattle.desk_words.specs.declared.event.Event.TheVariants.{SliceUp, SliceMsg}
use Rattle.desk_words.specs.declared.event.Timed.{Timed}
use Rattle.desk_words.specs.Histories.{is_slice_up}
use Rattle.desk_words.specs.Sent.{sent_by, lane_by}
use Rattle.desk_words.specs.Verdicts.{is_over}
use Rattle.desk_words.specs.Operations.{ends}
use Rattle.desk_words.specs.Recorded.{next_of, Happened, all_happened}

-- ---- messages

-- what an event after a history sends the switch: nothing once the history is over
abbrev pub sent_to_switch : PolicyView → List Timed → Timed → List (List ℕ)
sent_to_switch policy h timed = if is_over h then [] else lane_by policy h timed

-- and what it sends the slice at a slot
abbrev pub sent_to_slice : PolicyView → ℕ → List Timed → Timed → List (List ℕ)
sent_to_slice policy slot h timed = if is_over h then [] else sent_by policy slot h timed

-- what events send the switch, one after another
abbrev pub lane_over : PolicyView → List Happened → List (List ℕ)
lane_over policy events = flat_map (λ one. sent_to_switch policy one.history one.timed) events

-- and what they send the slice at a slot
abbrev pub told_over : PolicyView → ℕ → List Happened → List (List ℕ)
told_over policy slot events = flat_map (λ one. sent_to_slice policy slot one.history one.timed) events

-- ---- lines

-- where a line belongs: the number of its event, from 0 over the whole recording, and the event's switch
pub record LinePlace : Type 0 where
  pub number : ℕ
  pub switch : ℕ

-- what a line says of its event: a message is sent to the switch, or to the slice of a name at a slot; the connection of the slice of a name is closed; the switch's connection has ended
pub data Saying : Type 0 where
  Lane : (message : List ℕ) → Saying
  To : (slot : ℕ) (name message : List ℕ) → Saying
  Close : (name : List ℕ) → Saying
  SwitchEnd : Saying

-- a line: where it belongs, and what it says
pub record Line : Type 0 where
  pub place : LinePlace
  pub saying : Saying

abbrev pub lane_line : LinePlace → List ℕ → Line
lane_line place message = record { place = place; saying = Lane message }

abbrev pub slice_line : LinePlace → ℕ → List ℕ → List ℕ → Line
slice_line place slot name message = record { place = place; saying = To slot name message }

abbrev pub close_line : LinePlace → List ℕ → Line
close_line place name = record { place = place; saying = Close name }

abbrev pub down_line : LinePlace → Line
down_line place = record { place = place; saying = SwitchEnd }

-- a line for each message for the switch
abbrev pub lane_lines : LinePlace → List (List ℕ) → List Line
lane_lines place messages = map (lane_line place) messages

-- a line for each message for the slice of a name at a slot
abbrev pub slice_lines : LinePlace → ℕ → List ℕ → List (List ℕ) → List Line
slice_lines place slot name messages = map (slice_line place slot name) messages

-- for each of these slices, the first of them at a slot, a line for each of its messages
abbrev pub lines_by_slot : LinePlace → (ℕ → List (List ℕ)) → ℕ → List Slice → List Line
lines_by_slot place messages slot slices = flat_map (λ one. slice_lines place one.0 one.1.name (messages one.0)) (enumerate_from slot slices)

-- the name of the slice at a slot
abbrev pub name_at : List Slice → ℕ → List ℕ
name_at slices slot = elim (slice_get slices slot) [ None ↦ [] | Some slice ↦ slice.name ]

-- the slice whose controller connected or sent a message
abbrev pub speaker : Event → Option ℕ
speaker (SliceUp slot) = Some slot
speaker (SliceMsg slot message) = Some slot
speaker event = None

-- the connection of the slice at a slot is closed, or not
abbrev pub closed_lines : PolicyView → LinePlace → ℕ → Bool → List Line
closed_lines policy place slot closed = if closed then close_line place (name_at policy.slices slot) ∷ [] else []

-- the slice that spoke isn't up
abbrev pub closing_lines : PolicyView → LinePlace → List Timed → Option ℕ → List Line
closing_lines policy place h None = []
closing_lines policy place h (Some slot) = closed_lines policy place slot (not (is_slice_up policy slot h))

-- a slice's connection came or sent a message, and isn't up after that
abbrev pub close_lines : PolicyView → LinePlace → List Timed → Event → List Line
close_lines policy place h event = closing_lines policy place h (speaker event)

-- the switch's connection has ended, or not
abbrev pub ended_lines : LinePlace → Bool → List Line
ended_lines place ended = if ended then down_line place ∷ [] else []

-- an event ended the switch's connection
abbrev pub down_lines : LinePlace → List Timed → Timed → List Line
down_lines place h timed = ended_lines place (ends h timed)

-- the lines of one event after a history: for the switch, for the slices by slot, the connection that is closed, and the end
abbrev pub event_lines : PolicyView → LinePlace → List Timed → Timed → List Line
event_lines policy place h timed =
    lane_lines place (sent_to_switch policy h timed)
    ++ lines_by_slot place (λ slot. sent_to_slice policy slot h timed) 0 policy.slices
    ++ close_lines policy place (next_of h timed) timed.event
    ++ (if is_over h then [] else down_lines place h timed)

-- the lines of an event at its number
abbrev pub lines_at : PolicyView → ℕ × Happened → List Line
lines_at policy one = event_lines policy (record { number = one.0; switch = one.1.switch }) one.1.history one.1.timed

-- the lines of events, each at its number, from a number on
unfoldable pub lines_from : PolicyView → ℕ → List Happened → List Line
lines_from policy number events = flat_map (lines_at policy) (enumerate_from number events)

-- the lines of all that happened in a recording
abbrev pub all_lines : PolicyView → List Told → List Line
all_lines policy records = lines_from policy 0 (all_happened policy records)

-- ---- reports

-- both numbers in decimal, each with a space behind it
abbrev pub place_text : LinePlace → List ℕ
place_text place = decimal place.number ++ codes " " ++ decimal place.switch ++ codes " "

-- what is said, a message in hex
abbrev pub saying_text : Saying → List ℕ
saying_text (Lane message) = codes "lane " ++ encode_lower message
saying_text (To slot name message) = codes "to " ++ name ++ codes " " ++ encode_lower message
saying_text (Close name) = codes "close " ++ name
saying_text SwitchEnd = codes "down"

-- the text of a line: where it belongs, and what it says
abbrev pub line_text : Line → List ℕ
line_text line = place_text line.place ++ saying_text line.saying ++ codes "\n"

-- the last line: how many events there were
abbrev pub last_line : ℕ → List ℕ
last_line events = codes "end " ++ decimal events ++ codes "\n"

-- the report of a recording under a policy: the text of the lines of all that happened, and the last line
unfoldable pub report : PolicyView → List Told → List ℕ
report policy records = flat_map line_text (all_lines policy records) ++ last_line (length (all_happened policy records))
