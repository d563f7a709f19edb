-- The messages that are reported are those of the summary, and how they are counted.
use Rattle.std.proofs.Common.{◌≡◌, inl, inr, ◌+◌, ◌<◌, ◌≤◌, ◌==◌, ℕ, not, Bool, true, false, if◌then◌else◌, List, [], ◌∷◌, ◌++◌, drop, length, refl, sym, ap, ap₂, ◌∙◌, append_assoc, subst, Option, Some, None, Result, Ok, Err, OnOk, slice_get, codes, decimal, arith}
use Rattle.std.specs.List.{flat_map, enumerate_from}
use Rattle.std.specs.Prelude.{IfErr}
use Rattle.std.specs.Result.{IsErrAnd}
use Rattle.fv_report.specs.Writing.{CountedFault, Counted}
use Rattle.event_player.specs.declared.fault.ReportFault.{ReportFault}
use Rattle.event_player.specs.declared.fault.ReportFault.TheVariants.{Memory}
use Rattle.std.specs.Vec.{with_item}
use Rattle.std.proofs.lemmas.List.{append-nil, drop_more, length-append, length-set}
use Rattle.std.proofs.lemmas.List.Sums.{sum_by-append}
use Rattle.std.proofs.lemmas.Option.{slice_get_within, get_or_from_slice_get}
use Rattle.std.proofs.lemmas.Bool.{cases_eq, eq-eqb, ne_eqb}
use Rattle.std.proofs.lemmas.Grind.{flat_map-append}
use Rattle.flowspace.specs.declared.slices.Slice.{Slice}
use Rattle.flowspace.specs.Policies.{PolicyView}
use Rattle.recording.specs.Recordings.{Told}
use Rattle.desk_words.specs.declared.event.Timed.{Timed}
use Rattle.desk_words.specs.Histories.{is_slice_up}
use Rattle.desk_words.specs.Verdicts.{is_over}
use Rattle.desk_words.specs.Operations.{ends}
use Rattle.desk_words.specs.Recorded.{next_of, Happened, all_happened}
use Rattle.desk_words.specs.Reports.{LinePlace, name_at, speaker, Line, Saying, Lane, To, Close, SwitchEnd, lane_lines, slice_lines, lines_by_slot, closing_lines, close_lines, down_line, down_lines, event_lines, lines_from, all_lines, sent_to_switch, sent_to_slice, close_line}
use Rattle.run_words.specs.Summaries.{lane_messages, slice_messages, event_count, count_line, summary, summary_text}
use Rattle.fv_report.specs.declared.counter.Count.{Count}
use Rattle.fv_report.specs.declared.counter.Counter.{Counter}
use Rattle.event_player.specs.Telling.{Outcome, ToldWhole, HeardPart}
use Rattle.event_player.proofs.Recorded.{same_number, set_get}
use Rattle.fv_report.specs.Counting.{CountsMore, lane_said, slice_in, lane_told_in, slice_told_in, IsCount, HasCounted, CountsLine}

-- ---- what lines report

-- a way to pick messages of what is said, that picks none of a closed connection and of an end
record Picks (picked : Saying → List (List ℕ)) : Type 0 where
  close : (name : List ℕ) → picked (Close name) ≡ []
  down : picked SwitchEnd ≡ []

-- what is chosen of messages for the switch and for the slices
abbrev Chooses : Type 0
Chooses = List (List ℕ) → (ℕ → List (List ℕ)) → List (List ℕ)

abbrev all_picked : (Saying → List (List ℕ)) → List Line → List (List ℕ)
all_picked picked lines = flat_map (λ (line : Line). picked line.saying) lines

-- it picks of the lines of messages those that are chosen
abbrev IsPicked : (Saying → List (List ℕ)) → Chooses → PolicyView → Type 0
IsPicked picked chosen p =
    (place : LinePlace) (lane : List (List ℕ)) (messages : ℕ → List (List ℕ)) → all_picked picked (lane_lines place lane ++ lines_by_slot place messages 0 p.slices) ≡ chosen lane messages

-- nothing is picked, whether or not there is the line
unless_none : (picked : Saying → List (List ℕ)) (b : Bool) (lines : List Line) → all_picked picked lines ≡ [] → all_picked picked (if b then [] else lines) ≡ []
unless_none picked true lines none = refl
unless_none picked false lines none = none

where_none : (picked : Saying → List (List ℕ)) (b : Bool) (lines : List Line) → all_picked picked lines ≡ [] → all_picked picked (if b then lines else []) ≡ []
where_none picked true lines none = none
where_none picked false lines none = refl

none_of_closing : (picked : Saying → List (List ℕ)) → Picks picked → (p : PolicyView) (place : LinePlace) (h : List Timed) (speaking : Option ℕ) → all_picked picked (closing_lines p place h speaking) ≡ []
none_of_closing picked picks p place h None = refl
none_of_closing picked picks p place h (Some slot) =
    where_none picked (not (is_slice_up p slot h)) (close_line place (name_at p.slices slot) ∷ []) (append-nil (picked (Close (name_at p.slices slot))) ∙ picks.close (name_at p.slices slot))

none_of_down : (picked : Saying → List (List ℕ)) → Picks picked → (place : LinePlace) (h : List Timed) (timed : Timed) → all_picked picked (down_lines place h timed) ≡ []
none_of_down picked picks place h timed = where_none picked (ends h timed) (down_line place ∷ []) (append-nil (picked SwitchEnd) ∙ picks.down)

of_event : (picked : Saying → List (List ℕ)) (chosen : Chooses) (p : PolicyView) → Picks picked → IsPicked picked chosen p → (place : LinePlace) (h : List Timed) (timed : Timed)
    → all_picked picked (event_lines p place h timed) ≡ chosen (sent_to_switch p h timed) (λ slot. sent_to_slice p slot h timed)
of_event picked chosen p picks is place h timed =
    let pick = λ (line : Line). picked line.saying in
    let lane = sent_to_switch p h timed in
    let messages = λ (slot : ℕ). sent_to_slice p slot h timed in
    let first = lane_lines place lane ++ lines_by_slot place messages 0 p.slices in
    let second = close_lines p place (next_of h timed) timed.event in
    let third : List Line = if is_over h then [] else down_lines place h timed in
    let made = chosen lane messages in
    flat_map-append pick (first ++ second) third
    ∙ ap₂ (λ (a b : List (List ℕ)). a ++ b)
    (flat_map-append pick first second
    ∙ ap₂ (λ (a b : List (List ℕ)). a ++ b) (is place lane messages) (none_of_closing picked picks p place (next_of h timed) (speaker timed.event))
    ∙ append-nil made)
    (unless_none picked (is_over h) (down_lines place h timed) (none_of_down picked picks place h timed))
    ∙ append-nil made

of_events : (picked : Saying → List (List ℕ)) (chosen : Chooses) (p : PolicyView) → Picks picked → IsPicked picked chosen p → (number : ℕ) (events : List Happened)
    → all_picked picked (lines_from p number events) ≡ flat_map (λ (one : Happened). chosen (sent_to_switch p one.history one.timed) (λ slot. sent_to_slice p slot one.history one.timed)) events
unfolding lines_from
of_events picked chosen p picks is number [] = refl
of_events picked chosen p picks is number (one ∷ later) =
    let place : LinePlace = record { number = number; switch = one.switch } in
    flat_map-append (λ (line : Line). picked line.saying) (event_lines p place one.history one.timed) (lines_from p (number + 1) later)
    ∙ ap₂ (λ (a b : List (List ℕ)). a ++ b) (of_event picked chosen p picks is place one.history one.timed) (of_events picked chosen p picks is (number + 1) later)

-- ---- for the switch

lane_of_lane : (place : LinePlace) (messages : List (List ℕ)) → lane_told_in (lane_lines place messages) ≡ messages
lane_of_lane place [] = refl
lane_of_lane place (m ∷ messages) = ap (λ (others : List (List ℕ)). m ∷ others) (lane_of_lane place messages)

lane_of_slice : (place : LinePlace) (slot : ℕ) (name : List ℕ) (messages : List (List ℕ)) → lane_told_in (slice_lines place slot name messages) ≡ []
lane_of_slice place slot name [] = refl
lane_of_slice place slot name (m ∷ messages) = lane_of_slice place slot name messages

lane_of_slots : (place : LinePlace) (messages : ℕ → List (List ℕ)) (slot : ℕ) (slices : List Slice) → lane_told_in (lines_by_slot place messages slot slices) ≡ []
lane_of_slots place messages slot [] = refl
lane_of_slots place messages slot (s ∷ others) =
    flat_map-append (λ (line : Line). lane_said line.saying) (slice_lines place slot s.name (messages slot)) (lines_by_slot place messages (slot + 1) others)
    ∙ ap₂ (λ (a b : List (List ℕ)). a ++ b) (lane_of_slice place slot s.name (messages slot)) (lane_of_slots place messages (slot + 1) others)

lane_is_picked : (p : PolicyView) → IsPicked lane_said (λ lane messages. lane) p
lane_is_picked p place lane messages =
    flat_map-append (λ (line : Line). lane_said line.saying) (lane_lines place lane) (lines_by_slot place messages 0 p.slices)
    ∙ ap₂ (λ (a b : List (List ℕ)). a ++ b) (lane_of_lane place lane) (lane_of_slots place messages 0 p.slices)
    ∙ append-nil lane

-- the lines of a recording report its messages for the switch
pub lane_told_of : (p : PolicyView) (records : List Told) → lane_told_in (all_lines p records) ≡ lane_messages p records
lane_told_of p records = of_events lane_said (λ lane messages. lane) p (record { close = λ name. refl; down = refl }) (lane_is_picked p) 0 (all_happened p records)

-- ---- for a slice

slice_of_lane : (slot : ℕ) (place : LinePlace) (messages : List (List ℕ)) → slice_told_in slot (lane_lines place messages) ≡ []
slice_of_lane slot place [] = refl
slice_of_lane slot place (m ∷ messages) = slice_of_lane slot place messages

slice_of_own : (slot at : ℕ) (place : LinePlace) (name : List ℕ) (messages : List (List ℕ)) → (at == slot) ≡ true → slice_told_in slot (slice_lines place at name messages) ≡ messages
slice_of_own slot at place name [] is = refl
slice_of_own slot at place name (m ∷ messages) is = rw is (ap (λ (others : List (List ℕ)). m ∷ others) (slice_of_own slot at place name messages is))

slice_of_other : (slot at : ℕ) (place : LinePlace) (name : List ℕ) (messages : List (List ℕ)) → (at == slot) ≡ false → slice_told_in slot (slice_lines place at name messages) ≡ []
slice_of_other slot at place name [] other = refl
slice_of_other slot at place name (m ∷ messages) other = rw other (slice_of_other slot at place name messages other)

-- slices behind a slot
slice_of_behind : (slot : ℕ) (place : LinePlace) (messages : ℕ → List (List ℕ)) (from : ℕ) (slices : List Slice) → slot < from → slice_told_in slot (lines_by_slot place messages from slices) ≡ []
slice_of_behind slot place messages from [] behind = refl
slice_of_behind slot place messages from (s ∷ others) behind =
    flat_map-append (λ (line : Line). slice_in slot line.saying) (slice_lines place from s.name (messages from)) (lines_by_slot place messages (from + 1) others)
    ∙ ap₂ (λ (a b : List (List ℕ)). a ++ b) (slice_of_other slot from place s.name (messages from) (ne_eqb from slot (λ same. absurd (omega (arith, same, behind))))) (slice_of_behind slot place messages (from + 1) others (omega (arith, behind)))

slice_of_slots : (slot : ℕ) (place : LinePlace) (messages : ℕ → List (List ℕ)) (from : ℕ) (slices : List Slice) → from ≤ slot → slot < from + length slices → slice_told_in slot (lines_by_slot place messages from slices) ≡ messages slot
slice_of_slots slot place messages from [] reached within = absurd (omega (arith, reached, within))
slice_of_slots slot place messages from (s ∷ others) reached within =
    flat_map-append (λ (line : Line). slice_in slot line.saying) (slice_lines place from s.name (messages from)) (lines_by_slot place messages (from + 1) others)
    ∙ elim (cases_eq from slot) [
      | inl same ↦
          ap₂ (λ (a b : List (List ℕ)). a ++ b) (slice_of_own slot from place s.name (messages from) (eq-eqb from slot same)) (slice_of_behind slot place messages (from + 1) others (omega (arith, same)))
          ∙ append-nil (messages from) ∙ ap messages same
      | inr unlike ↦
          ap₂ (λ (a b : List (List ℕ)). a ++ b) (slice_of_other slot from place s.name (messages from) (ne_eqb from slot unlike)) (slice_of_slots slot place messages (from + 1) others (omega (arith, reached, unlike)) (omega (arith, within)))
    ]

slice_is_picked : (p : PolicyView) (slot : ℕ) → slot < length p.slices → IsPicked (slice_in slot) (λ lane messages. messages slot) p
slice_is_picked p slot known place lane messages =
    flat_map-append (λ (line : Line). slice_in slot line.saying) (lane_lines place lane) (lines_by_slot place messages 0 p.slices)
    ∙ ap₂ (λ (a b : List (List ℕ)). a ++ b) (slice_of_lane slot place lane) (slice_of_slots slot place messages 0 p.slices (omega arith) (omega (arith, known)))

-- the lines of a recording report its messages for the slice at a slot
pub slice_told_of : (p : PolicyView) (slot : ℕ) (records : List Told) → slot < length p.slices → slice_told_in slot (all_lines p records) ≡ slice_messages p slot records
slice_told_of p slot records known = of_events (slice_in slot) (λ lane messages. messages slot) p (record { close = λ name. refl; down = refl }) (slice_is_picked p slot known) 0 (all_happened p records)

-- ---- the summary

-- the lines of the slices from a slot on
abbrev pub counts_from : (ℕ → List (List ℕ)) → ℕ → List Slice → List ℕ
counts_from messages from slices = flat_map (λ one. count_line one.1.name (messages one.0)) (enumerate_from from slices)

counts_same : (first second : ℕ → List (List ℕ)) (from : ℕ) (slices : List Slice) → ((slot : ℕ) → from ≤ slot → slot < from + length slices → first slot ≡ second slot) → counts_from first from slices ≡ counts_from second from slices
counts_same first second from [] same = refl
counts_same first second from (s ∷ others) same =
    ap₂ (λ (a b : List ℕ). a ++ b) (ap (count_line s.name) (same from (omega arith) (omega arith))) (counts_same first second (from + 1) others (λ slot reached within. same slot (omega (arith, reached)) (omega (arith, within))))

-- what the lines of a recording report is summed in its summary
pub summary_told : (p : PolicyView) (records : List Told) → let lines = all_lines p records in summary_text (event_count p records) (lane_told_in lines) (λ slot. slice_told_in slot lines) p.slices ≡ summary p records
summary_told p records =
    let lines = all_lines p records in
    ap₂ (λ (lane : List (List ℕ)) (counts : List ℕ). codes "events " ++ decimal (event_count p records) ++ codes "\n" ++ count_line (codes "lane") lane ++ counts)
    (lane_told_of p records)
    (counts_same (λ slot. slice_told_in slot lines) (λ slot. slice_messages p slot records) 0 p.slices (λ slot reached within. slice_told_of p slot records (omega (arith, within))))

-- ---- counting

-- a message more
count_more : (all : List (List ℕ)) (message : List ℕ) (old new : Count) → IsCount all old → CountsMore message old new → IsCount (all ++ message ∷ []) new
count_more all message old new is added =
    let more = length-append all (message ∷ []) in
    let size = sum_by-append (λ (m : List ℕ). length m) all (message ∷ []) in
    let messages = is.messages in
    let bytes = is.bytes in
    let one = added.messages in
    let own = added.bytes in
    record { messages = omega (arith, more, messages, one); bytes = omega (arith, size, bytes, own) }

-- no message more
count_same : (all : List (List ℕ)) (count : Count) → IsCount all count → IsCount (all ++ []) count
count_same all count is = subst (λ (messages : List (List ℕ)). IsCount messages count) (sym (append-nil all)) is

-- a message for the switch is counted
pub lane_counted : (message : List ℕ) (old : Counter) (new : Count) → CountsMore message old.lane new → CountsLine (Lane message) (Ok tt) old (record { lane = new; slices = old.slices })
lane_counted message old new added slots lane slices counts = record {
  known = counts.known;
  for_lane = count_more lane message old.lane new counts.for_lane added;
  for_slices = λ slot count is. count_same (slices slot) count (counts.for_slices slot count is);
}

-- a message for the slice at a slot is counted
pub slice_counted : (at : ℕ) (name message : List ℕ) (old : Counter) (was new : Count) → slice_get old.slices.items at ≡ Some was → CountsMore message was new
    → CountsLine (To at name message) (Ok tt) old (record { lane = old.lane; slices = with_item old.slices at new })
slice_counted at name message old was new is added slots lane slices counts = record {
  known = length-set old.slices.items at new ∙ counts.known;
  for_lane = count_same lane old.lane counts.for_lane;
  for_slices =
      set_get (λ (n : ℕ) (count : Count). IsCount (slices n ++ slice_in n (To at name message)) count) old.slices.items at new
      (λ other count unlike there. rw unlike (count_same (slices other) count (counts.for_slices other count there)))
      (rw (same_number at) (count_more (slices at) message was new (counts.for_slices at was is) added));
}

-- there is no such slice
pub none_counted : (at : ℕ) (name message : List ℕ) (old : Counter) → length old.slices.items ≤ at → CountsLine (To at name message) (Ok tt) old old
none_counted at name message old past slots lane slices counts = record {
  known = counts.known;
  for_lane = count_same lane old.lane counts.for_lane;
  for_slices = λ slot count is.
      let within = slice_get_within old.slices.items slot count is in
      rw (ne_eqb at slot (λ same. absurd (omega (arith, same, within, past)))) (count_same (slices slot) count (counts.for_slices slot count is));
}

pub ok_so : {A E P Q : Type 0} (result : Result A E) → OnOk result P → (P → Q) → OnOk result Q
ok_so (Ok value) holds so = so holds
ok_so (Err fault) holds so = tt

-- a line is counted where it was reported whole
pub told_as : (outcome : Outcome) (saying : Saying) (old new : Counter) → OnOk outcome (CountsLine saying (Ok tt) old new) → IfErr outcome (λ f. f ≡ Memory) → CountsLine saying outcome old new
told_as (Ok value) saying old new holds memory = holds
told_as (Err fault) saying old new holds memory = memory

-- nothing but a lack of memory ends what is counted
pub nothing_counted : {A : Type 0} (fault : ReportFault) (result : Result A ReportFault) (n : ℕ) → IsErrAnd result (λ e. e ≡ fault) → fault ≡ Memory → Counted result n n
nothing_counted fault (Err e) n same memory = subst (λ (f : ReportFault). CountedFault f n n) (sym (same ∙ memory)) refl
nothing_counted fault (Ok value) n same memory = absurd same

-- the same messages in other words
counts_as : (slots : ℕ) (lane other_lane : List (List ℕ)) (slices other_slices : ℕ → List (List ℕ)) (counter : Counter) → lane ≡ other_lane → ((slot : ℕ) → slices slot ≡ other_slices slot) → HasCounted slots lane slices counter → HasCounted slots other_lane other_slices counter
counts_as slots lane other_lane slices other_slices counter same same_slices counts = record {
  known = counts.known;
  for_lane = subst (λ (messages : List (List ℕ)). IsCount messages counter.lane) same counts.for_lane;
  for_slices = λ slot count is. subst (λ (messages : List (List ℕ)). IsCount messages count) (same_slices slot) (counts.for_slices slot count is);
}

-- after lines that were reported the messages that they report are counted
pub counted_lines : (lines : List Line) (old new : Counter) (slots : ℕ) (lane : List (List ℕ)) (slices : ℕ → List (List ℕ)) → HasCounted slots lane slices old → ToldWhole (λ was line outcome is. CountsLine line.saying outcome was is) old lines new
    → HasCounted slots (lane ++ lane_told_in lines) (λ slot. slices slot ++ slice_told_in slot lines) new
counted_lines [] old new slots lane slices counts same =
    subst (HasCounted slots (lane ++ []) (λ slot. slices slot ++ [])) (sym same)
    (counts_as slots lane (lane ++ []) slices (λ slot. slices slot ++ []) old (sym (append-nil lane)) (λ slot. sym (append-nil (slices slot))) counts)
counted_lines (line ∷ lines) old new slots lane slices counts (next, told, others) =
    let more = λ (slot : ℕ). slices slot ++ slice_in slot line.saying in
    counts_as slots ((lane ++ lane_said line.saying) ++ lane_told_in lines) (lane ++ (lane_said line.saying ++ lane_told_in lines)) (λ slot. more slot ++ slice_told_in slot lines) (λ slot. slices slot ++ (slice_in slot line.saying ++ slice_told_in slot lines)) new
    (append_assoc lane (lane_said line.saying) (lane_told_in lines))
    (λ slot. append_assoc (slices slot) (slice_in slot line.saying) (slice_told_in slot lines))
    (counted_lines lines next new slots (lane ++ lane_said line.saying) more (told slots lane slices counts) others)

-- ---- the lines of a summary

-- the line of a slot and those behind it
split : (messages : ℕ → List (List ℕ)) (all : List Slice) (at : ℕ) (slice : Slice) → slice_get all at ≡ Some slice
    → counts_from messages at (drop at all) ≡ count_line slice.name (messages at) ++ counts_from messages (at + 1) (drop (at + 1) all)
split messages all at slice is =
    ap (counts_from messages at) (drop_more all at slice (slice_get_within all at slice is))
    ∙ ap (λ (first : Slice). count_line first.name (messages at) ++ counts_from messages (at + 1) (drop (at + 1) all)) (get_or_from_slice_get all at slice slice is)

-- the line of one slot more was put
pub line_put : (messages : ℕ → List (List ℕ)) (all : List Slice) (at : ℕ) (slice : Slice) (name old new whole : List ℕ)
    → slice_get all at ≡ Some slice → name ≡ slice.name → old ++ counts_from messages at (drop at all) ≡ whole → new ≡ old ++ count_line name (messages at)
    → new ++ counts_from messages (at + 1) (drop (at + 1) all) ≡ whole
line_put messages all at slice name old new whole is named before put =
    let others = counts_from messages (at + 1) (drop (at + 1) all) in
    ap (λ (text : List ℕ). text ++ others) (put ∙ ap (λ (n : List ℕ). old ++ count_line n (messages at)) named)
    ∙ append_assoc old (count_line slice.name (messages at)) others
    ∙ ap (λ (text : List ℕ). old ++ text) (sym (split messages all at slice is))
    ∙ before
