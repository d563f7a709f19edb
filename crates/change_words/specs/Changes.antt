-- What a change of policy takes away from the switches of a recording that is played under the old one, and the text that says it. All of this is this program's own rule; the messages are those of OpenFlow 1.0.0, section 5.3.3.
use Rattle.std.specs.Prelude.{ℕ, if◌then◌else◌, List, [], ◌++◌, length, map, reverse, codes, decimal, Option, Some, None}
use Rattle.std.specs.List.{flat_map, enumerate_from, range_with_len}
use Rattle.hex.specs.Hex.{encode_lower}
use Rattle.of10_flow.specs.declared.flow_mod.FlowMod.{FlowMod}
use Rattle.of10_flow.specs.FlowMods.{spell_flow_mod}
use Rattle.of10_port.specs.declared.features.Features.{Features}
use Rattle.flowspace.specs.Order.{rules_on}
use Rattle.flowspace.specs.Swaps.{swaps_on}
use Rattle.flowspace.specs.Policies.{PolicyView, SwitchView}
use Rattle.flow_book.specs.declared.booked.Booked.{Booked}
use Rattle.flow_book.specs.Books.{book}
use Rattle.policy_change.specs.Planned.{plan_of}
use Rattle.recording.specs.Recordings.{Told}
use Rattle.slice_words.specs.Standing.{past_of}
use Rattle.slice_words.specs.Calls.{book_calls}
use Rattle.desk_words.specs.declared.event.Timed.{Timed}
use Rattle.desk_words.specs.Openings.{phase_of, opening_of}
use Rattle.desk_words.specs.Histories.{settings_at, view_of, is_open}
use Rattle.desk_words.specs.Recorded.{history_of}
use Rattle.run_words.specs.Summaries.{event_count}
use Rattle.change_words.specs.BookOrder.{in_book_order}

-- ---- the plan for one switch

-- what is booked for the slice at a slot after a history, on a switch that said these features, in a book's order
unfoldable pub booked_after : PolicyView → List Timed → Features → ℕ → List Booked
booked_after policy h features slot =
    (let s = settings_at policy slot (Some features) in in_book_order (book (book_calls s (past_of s (view_of policy slot h)))))

-- the same of all slices, by slots
abbrev pub books_after : PolicyView → List Timed → Features → List (List Booked)
books_after policy h features = map (λ one. booked_after policy h features one.0) (enumerate_from 0 policy.slices)

-- what a policy says of one switch
abbrev pub policy_on : ℕ → PolicyView → SwitchView
policy_on datapath policy = record { slices = policy.slices; rules = rules_on datapath policy.rules; swaps = swaps_on datapath policy.swaps }

-- the plan for a switch that said these features; none where it said none
abbrev pub plan_told : PolicyView → PolicyView → List Timed → Option Features → List FlowMod
plan_told old new h None = []
plan_told old new h (Some features) = plan_of (policy_on features.datapath new) old.slices (books_after old h features)

-- the plan after a history under the old policy: none where the switch isn't open
unfoldable pub plan_after : PolicyView → PolicyView → List Timed → List FlowMod
plan_after old new h = if is_open (phase_of h) then plan_told old new h (opening_of h) else []

-- ---- all switches of a recording

-- the plan for the switch of a number
abbrev pub plan_for : PolicyView → PolicyView → List Told → ℕ → List FlowMod
plan_for old new records number = plan_after old new (history_of old number (reverse records))

-- the numbers of switches
abbrev pub switch_numbers : List ℕ
switch_numbers = range_with_len 0 16

-- all messages, by the numbers of their switches
abbrev pub all_planned : PolicyView → PolicyView → List Told → List FlowMod
all_planned old new records = flat_map (plan_for old new records) switch_numbers

-- ---- the text

-- a line of a message's bytes for the switch of a number
abbrev pub clean_line : ℕ → List ℕ → List ℕ
clean_line number bytes = decimal number ++ codes " clean " ++ encode_lower bytes ++ codes "\n"

-- the lines of messages for it
abbrev pub clean_lines : ℕ → List FlowMod → List ℕ
clean_lines number messages = flat_map (λ message. clean_line number (spell_flow_mod message)) messages

-- the lines of all plans, by the numbers of the switches
abbrev pub all_clean_lines : PolicyView → PolicyView → List Told → List ℕ
all_clean_lines old new records = flat_map (λ number. clean_lines number (plan_for old new records number)) switch_numbers

-- the last line: how many events and how many messages there were
abbrev pub change_end : ℕ → ℕ → List ℕ
change_end events messages = codes "end " ++ decimal events ++ codes " " ++ decimal messages ++ codes "\n"

-- the text of a change: all these lines, and the last one
unfoldable pub change_text : PolicyView → PolicyView → List Told → List ℕ
change_text old new records = all_clean_lines old new records ++ change_end (event_count old records) (length (all_planned old new records))
