-- The summary of a recording: how many events there are, and how many messages, and bytes of them, go to the switch and to each slice (this proxy's own rule). They are those of all that happened, for which a report has a line each.
use Rattle.std.specs.Prelude.{ℕ, List, ◌++◌, length, codes, decimal}
use Rattle.std.specs.List.{flat_map, enumerate_from}
use Rattle.flowspace.specs.declared.slices.Slice.{Slice}
use Rattle.flowspace.specs.Policies.{PolicyView}
use Rattle.recording.specs.Recordings.{Told}
use Rattle.outbox.specs.Queues.{size}
use Rattle.desk_words.specs.Recorded.{all_happened}
use Rattle.desk_words.specs.Reports.{lane_over, told_over}

-- all messages of a recording for the switch
abbrev pub lane_messages : PolicyView → List Told → List (List ℕ)
lane_messages policy records = lane_over policy (all_happened policy records)

-- all messages of a recording for the slice at a slot
abbrev pub slice_messages : PolicyView → ℕ → List Told → List (List ℕ)
slice_messages policy slot records = told_over policy slot (all_happened policy records)

-- how many events a recording makes
abbrev pub event_count : PolicyView → List Told → ℕ
event_count policy records = length (all_happened policy records)

-- a line says of messages how many there are, and how many bytes they have together
abbrev pub count_line : List ℕ → List (List ℕ) → List ℕ
count_line name messages = name ++ codes " " ++ decimal (length messages) ++ codes " " ++ decimal (size messages) ++ codes "\n"

-- for each slice by slot a line of its messages
abbrev pub count_lines : (ℕ → List (List ℕ)) → List Slice → List ℕ
count_lines messages slices = flat_map (λ one. count_line one.1.name (messages one.0)) (enumerate_from 0 slices)

-- the summary of so many events with these messages: a line of the events, one of the switch and one of each slice by slot
abbrev pub summary_text : ℕ → List (List ℕ) → (ℕ → List (List ℕ)) → List Slice → List ℕ
summary_text events lane messages slices = codes "events " ++ decimal events ++ codes "\n" ++ count_line (codes "lane") lane ++ count_lines messages slices

-- the summary of a recording under a policy
abbrev pub summary : PolicyView → List Told → List ℕ
summary policy records = summary_text (event_count policy records) (lane_messages policy records) (λ slot. slice_messages policy slot records) policy.slices
