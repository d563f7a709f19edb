-- All switches of a recording, and all its records.
use Rattle.std.proofs.Common.{◌≡◌, ◌≤◌, ◌+◌, ◌==◌, ◌||◌, ℕ, true, false, if◌then◌else◌, true≢false, eq-eqb, take, drop, List, [], ◌∷◌, ◌++◌, set, length, reverse, refl, sym, ap, ◌∙◌, append_assoc, subst, Option, Some, None, Result, Ok, Err, slice_get, Bool, arith}
use Rattle.std.proofs.lemmas.List.{length-append, length-map, length-set, reverse-reverse}
use Rattle.std.proofs.lemmas.List.Elements.{All-nil}
use Rattle.std.proofs.lemmas.Bool.{or_parts, ne_eqb}
use Rattle.flowspace.specs.Policies.{PolicyView}
use Rattle.std.proofs.lemmas.List.{append-nil}
use Rattle.recording.specs.declared.item.Item.{Item}
use Rattle.recording.specs.declared.item.TheConstants.{BYTE_LIMIT}
use Rattle.recording.specs.Recordings.{Told, IsItem, switch_up, switch_bytes, slice_bytes, sent_bytes}
use Rattle.answer_bounds.specs.Bounds.{IsFramed, AreFramed}
use Rattle.desk_words.specs.declared.event.Timed.{Timed}
use Rattle.desk_words.specs.Recorded.{told_by, stream_before, history_of, history_at, events_in, bytes_carried, told_in, Happened, each_after, happened_in}
use Rattle.std.specs.Result.{IsErrAnd}
use Rattle.desk_words.specs.Reports.{LinePlace}
use Rattle.event_player.specs.declared.fault.ReportFault.{ReportFault}
use Rattle.event_player.specs.declared.fault.ReportFault.TheVariants.{Memory}
use Rattle.event_player.specs.declared.player.Player.{Player}
use Rattle.event_player.specs.Telling.{Cue, Outcome, ToldWhole, HeardPart, Tell, cues_from, all_cues, cues_after}
use Rattle.event_player.specs.Players.{scene_of, IsPlaying, TellsAll}
use Rattle.run_words.specs.Summaries.{event_count}
use Rattle.recording.proofs.Refused.{newest_first}
use Rattle.desk_words.proofs.Making.{happened_each}
use Rattle.desk_words.proofs.Reporting.{count_of_each, happened_after, next_happened, from_none}
use Rattle.event_player.specs.declared.switch.Switch.{Switch}
use Rattle.event_player.specs.declared.streams.Streams.{Streams}
use Rattle.event_player.specs.Holding.{IsQuiet}
use Rattle.event_player.specs.Streams.{connection, StreamsStand}
use Rattle.event_player.specs.Switches.{IsFreshSwitch, SwitchStands, IsFoundWhere, IsFound, IsRecord, RecordPlayed, IsUntouched, IsAt, PlaysAt, AreUnknown, SwitchesStand, PlaysAmong}
use Rattle.event_player.proofs.Cues.{cues_from_both}
use Rattle.event_player.proofs.Hearing.{heard_none, heard_both, heard_part_of_first, heard_part_of_second, tell_on}
use Rattle.event_player.proofs.Recorded.{history_other, stream_other, set_get, streams_fresh, streams_stay, played_so}

-- ---- a switch of which nothing came

no_stream : (switch kind slot : ℕ) (before : List Told) → IsUntouched switch before → stream_before (connection switch kind slot) before ≡ []
no_stream switch kind slot [] none = refl
no_stream switch kind slot (r ∷ before) none = let parts = or_parts (r.switch == switch) _ none in stream_other switch kind slot r before parts.0 ∙ no_stream switch kind slot before parts.1

no_history : (p : PolicyView) (switch : ℕ) (before : List Told) → IsUntouched switch before → history_of p switch before ≡ []
no_history p switch [] none = refl
no_history p switch (r ∷ before) none = let parts = or_parts (r.switch == switch) _ none in history_other p switch r before parts.0 ∙ no_history p switch before parts.1

-- a fresh switch is the one of which nothing came
pub fresh_stands : (p : PolicyView) (switch : ℕ) (before : List Told) (new : Switch) → IsUntouched switch before → IsFreshSwitch p new → SwitchStands p switch before new
fresh_stands p switch before new none fresh = record {
  quiet = subst (λ (h : List Timed). IsQuiet p h new.desk) (sym (no_history p switch before none)) fresh.quiet;
  framed = subst AreFramed (sym (no_history p switch before none)) (All-nil (λ (t : Timed). IsFramed t.event));
  streams = streams_fresh (length p.slices) switch before new.streams (no_stream switch switch_bytes 0 before none) (λ slot. no_stream switch slice_bytes slot before none) fresh.streams;
}

-- ---- one record among all switches

-- a record of a switch of which nothing came finds a fresh one
pub found_fresh : (p : PolicyView) (r : Told) (before : List Told) (fresh : Switch) (comes : Bool) → IsUntouched r.switch before → IsFreshSwitch p fresh → IsFoundWhere comes p r before fresh
found_fresh p r before fresh true none is_fresh = is_fresh
found_fresh p r before fresh false none is_fresh = fresh_stands p r.switch before fresh none is_fresh

-- a record finds the switch that connects fresh, and one that doesn't as it was
pub up_found : (p : PolicyView) (r : Told) (before : List Told) (fresh : Switch) → r.kind ≡ switch_up → IsFreshSwitch p fresh → IsFound p r before fresh
up_found p r before fresh is stands = subst (λ (comes : Bool). IsFoundWhere comes p r before fresh) (sym (eq-eqb r.kind switch_up is)) stands

pub other_found : (p : PolicyView) (r : Told) (before : List Told) (switch : Switch) → (r.kind ≡ switch_up → ⊥) → SwitchStands p r.switch before switch → IsFound p r before switch
other_found p r before switch other stands = subst (λ (comes : Bool). IsFoundWhere comes p r before switch) (sym (ne_eqb r.kind switch_up other)) stands

-- a record of a kind that carries no bytes has none
no_bytes : (size most : ℕ) (of_switch of_slice sent : Bool) → of_switch ≡ false → of_slice ≡ false → sent ≡ false → size ≤ (if of_switch || of_slice || sent then most else 0) → size ≡ 0
no_bytes size most true of_slice sent a b c few = absurd (true≢false a)
no_bytes size most false true sent a b c few = absurd (true≢false b)
no_bytes size most false false true a b c few = absurd (true≢false c)
no_bytes size most false false false a b c few = omega (arith, few)

not_sent : (kind : ℕ) → kind ≤ 5 → kind ≡ sent_bytes → ⊥
not_sent kind known sent = omega (arith, known, sent)

-- what is read of a recording is a record of it
pub is_record : (slices : ℕ) (file : List ℕ) (item : Item) → IsItem slices file item → IsRecord slices item (bytes_carried file item)
is_record slices file item is =
    let size = is.size in
    record {
      known = is.known;
      switch = is.switch;
      of_switch = is.of_switch;
      of_slice = is.of_slice;
      silent = λ a b. ap (λ (n : ℕ). take n (drop item.from file)) (no_bytes item.size BYTE_LIMIT (item.kind == switch_bytes) (item.kind == slice_bytes) (item.kind == sent_bytes) (ne_eqb item.kind switch_bytes a) (ne_eqb item.kind slice_bytes b) (ne_eqb item.kind sent_bytes (not_sent item.kind is.known)) size);
    }

streams_other : (slices switch : ℕ) (r : Told) (before : List Told) (streams : Streams) → (r.switch == switch) ≡ false → StreamsStand slices switch before streams → StreamsStand slices switch (r ∷ before) streams
streams_other slices switch r before streams other stands = streams_stay slices switch r before streams (stream_other switch switch_bytes 0 r before other) (λ slot. stream_other switch slice_bytes slot r before other) stands

-- a record of one switch leaves the others
at_other : (p : PolicyView) (number : ℕ) (r : Told) (before : List Told) (known : Option Switch) → (r.switch == number) ≡ false → IsAt p number before known → IsAt p number (r ∷ before) known
at_other p number r before None other none = rw other none
at_other p number r before (Some switch) other stands = record {
  quiet = subst (λ (h : List Timed). IsQuiet p h switch.desk) (sym (history_other p number r before other)) stands.quiet;
  framed = subst AreFramed (sym (history_other p number r before other)) stands.framed;
  streams = streams_other (length p.slices) number r before switch.streams other stands.streams;
}

-- one switch was played, and the others stay
among : (p : PolicyView) (r : Told) (before : List Told) (switches : List (Option Switch)) (new : Option Switch) → SwitchesStand p before switches → IsAt p r.switch (r ∷ before) new → SwitchesStand p (r ∷ before) (set switches r.switch new)
among p r before switches new stands own = record {
  count = length-set switches r.switch new ∙ stands.count;
  each = λ at known g. set_get (λ n s. IsAt p n (r ∷ before) s) switches r.switch new (λ n s unlike gs. at_other p n r before s unlike (stands.each n s gs)) own at known g;
}

-- a record that began was played at its switch
pub played_among : {T : Type 0} (Tells : T → Cue → Outcome → T → Type 0) (p : PolicyView) (number : ℕ) (r : Told) (before : List Told) (outcome : Outcome) (old begun new : Player T) (switches : List (Option Switch)) (known known_after : Option Switch) → begun.teller ≡ old.teller
    → IsPlaying (scene_of p number r) begun → slice_get switches r.switch ≡ Some known → SwitchesStand p before switches → PlaysAt Tells r outcome begun new known known_after → RecordPlayed Tells p number r before (SwitchesStand p (r ∷ before) (set switches r.switch known_after)) outcome old new
played_among {T} Tells p number r before outcome old begun new switches known known_after same is there stands plays =
    let played = played_so Tells p number r before outcome begun new (λ own. among p r before switches known_after stands own) (plays p number before is (stands.each r.switch known there)) in
    record {
      told = subst (λ (t : T). Tell Tells outcome (cues_after p (record { number = number; switch = r.switch }) (history_at p r before) (events_in p r before)) t new.teller) same played.told;
      at = played.at;
      more = played.more;
    }

-- ---- the events of all records

-- the lines of a record's events, and then those of the later ones
lines_next : (p : PolicyView) (number : ℕ) (before : List Told) (r : Told) (later : List Told)
    → cues_from p number (happened_after p before (r ∷ later))
    ≡ cues_after p (record { number = number; switch = r.switch }) (history_at p r before) (events_in p r before) ++ cues_from p (number + length (events_in p r before)) (happened_after p (r ∷ before) later)
lines_next p number before r later =
    let h = history_at p r before in
    let own = events_in p r before in
    let rest = happened_after p (r ∷ before) later in
    ap (cues_from p number) (next_happened p before r later ∙ ap (λ (made : List Happened). made ++ rest) (happened_each p before r))
    ∙ cues_from_both p number (each_after r.switch h own) rest
    ∙ ap (λ (n : ℕ). cues_from p number (each_after r.switch h own) ++ cues_from p (number + n) rest) (count_of_each r.switch h own)

-- how many events there are
count_next : (p : PolicyView) (before : List Told) (r : Told) (later : List Told)
    → length (happened_after p before (r ∷ later)) ≡ length (events_in p r before) + length (happened_after p (r ∷ before) later)
count_next p before r later =
    let own = happened_in p before r in
    let rest = happened_after p (r ∷ before) later in
    ap length (next_happened p before r later) ∙ length-append own rest ∙ ap (λ (n : ℕ). n + length rest) (sym (length-map own _))

no_lines : (p : PolicyView) (number : ℕ) (before : List Told) → cues_from p number (happened_after p before []) ≡ []
unfolding cues_from
no_lines p number before = refl

-- ---- all records

-- the records that are left of a file, and what a player reported and counted so far
pub record Running {T : Type 0} (Tells : T → Cue → Outcome → T → Type 0) (p : PolicyView) (file : List ℕ) (all left : List Item) (before now : Player T) (switches : List (Option Switch)) : Type 0 where
  pub policy : now.policy.now ≡ p
  pub past : List Told
  pub stands : SwitchesStand p past switches
  pub done : List Cue
  pub told : ToldWhole Tells before.teller done now.teller
  pub whole : done ++ cues_from p now.place.number (happened_after p past (told_in file left)) ≡ all_cues p (told_in file all)
  pub count : now.place.number + length (happened_after p past (told_in file left)) ≡ event_count p (told_in file all)
  pub order : reverse past ++ told_in file left ≡ told_in file all

pub running_first : {T : Type 0} (Tells : T → Cue → Outcome → T → Type 0) (file : List ℕ) (all : List Item) (player : Player T) (switches : List (Option Switch)) → player.place.number ≡ 0 → AreUnknown switches → Running Tells player.policy.now file all all player player switches
running_first Tells file all player switches none unknown =
    let p = player.policy.now in
    let happened = from_none p (told_in file all) in
    let same = ap length happened in
    record {
      policy = refl;
      past = [];
      stands = record { count = unknown.0; each = λ number switch is. subst (IsAt p number []) (sym (unknown.1 number switch is)) refl };
      done = [];
      told = refl;
      whole = ap (λ (n : ℕ). cues_from p n (happened_after p [] (told_in file all))) none ∙ ap (cues_from p 0) happened;
      count = omega (arith, same, none);
      order = refl;
    }

-- one record more was played
pub running_more : {T : Type 0} (Tells : T → Cue → Outcome → T → Type 0) (p : PolicyView) (file : List ℕ) (all from left : List Item) (item : Item) (value : Unit {0}) (before now after : Player T) (old new : List (Option Switch)) → from ≡ item ∷ left → Running Tells p file all from before now old
    → PlaysAmong Tells (told_by item (bytes_carried file item)) (Ok value) now after old new → Running Tells p file all left before after new
running_more Tells p file all from left item value before now after old new is s plays =
    let r = told_by item (bytes_carried file item) in
    let events = now.place.number in
    let own = events_in p r s.past in
    let lines = cues_after p (record { number = events; switch = r.switch }) (history_at p r s.past) own in
    let others = happened_after p (r ∷ s.past) (told_in file left) in
    let played = plays p events s.past (record { policy = s.policy; events = refl }) s.stands in
    let number : after.place.number ≡ events + length own = ap (λ (place : LinePlace). place.number) played.at.place in
    let whole_count : events + length (happened_after p s.past (r ∷ told_in file left)) ≡ event_count p (told_in file all) = ap (λ (items : List Item). events + length (happened_after p s.past (told_in file items))) (sym is) ∙ s.count in
    let next_count = count_next p s.past r (told_in file left) in
    record {
      policy = played.at.policy;
      past = r ∷ s.past;
      stands = played.more;
      done = s.done ++ lines;
      told = heard_both Tells before.teller now.teller after.teller s.done lines s.told played.told;
      whole =
          append_assoc s.done lines (cues_from p after.place.number others) ∙ ap (λ (n : ℕ). s.done ++ (lines ++ cues_from p n others)) number
          ∙ ap (λ (text : List Cue). s.done ++ text) (sym (lines_next p events s.past r (told_in file left)))
          ∙ ap (λ (items : List Item). s.done ++ cues_from p events (happened_after p s.past (told_in file items))) (sym is) ∙ s.whole;
      count = omega (arith, whole_count, next_count, number);
      order = newest_first r s.past (told_in file left) ∙ ap (λ (items : List Item). reverse s.past ++ told_in file items) (sym is) ∙ s.order;
    }

-- a fault came in the lines of the next record
pub running_part : {A T : Type 0} (Tells : T → Cue → Outcome → T → Type 0) (p : PolicyView) (file : List ℕ) (all from left : List Item) (item : Item) (fault : ReportFault) (result : Result A ReportFault) (before now after : Player T) (old new : List (Option Switch)) → from ≡ item ∷ left → Running Tells p file all from before now old
    → IsErrAnd result (λ e. e ≡ fault) → PlaysAmong Tells (told_by item (bytes_carried file item)) (Err fault) now after old new → TellsAll Tells p (told_in file all) result before after
running_part {A} Tells p file all from left item fault (Err e) before now after old new is s same plays =
    let r = told_by item (bytes_carried file item) in
    let events = now.place.number in
    let lines = cues_after p (record { number = events; switch = r.switch }) (history_at p r s.past) (events_in p r s.past) in
    let rest = cues_from p (events + length (events_in p r s.past)) (happened_after p (r ∷ s.past) (told_in file left)) in
    let played = plays p events s.past (record { policy = s.policy; events = refl }) s.stands in
    record {
      told = tell_on {A = A} Tells fault (Err e) (all_cues p (told_in file all)) before.teller after.teller same
          (subst (λ (t : List Cue). HeardPart Tells fault before.teller t after.teller)
          (ap (λ (text : List Cue). s.done ++ text) (sym (lines_next p events s.past r (told_in file left)))
          ∙ ap (λ (items : List Item). s.done ++ cues_from p events (happened_after p s.past (told_in file items))) (sym is) ∙ s.whole)
          (heard_part_of_second Tells fault s.done (lines ++ rest) before.teller now.teller after.teller s.told (heard_part_of_first Tells fault lines rest now.teller after.teller played.told)));
      count = tt;
    }
running_part Tells p file all from left item fault (Ok value) before now after old new is s same plays = absurd same

-- memory ran out before anything was reported
pub running_none : {A T : Type 0} (Tells : T → Cue → Outcome → T → Type 0) (p : PolicyView) (records : List Told) (result : Result A ReportFault) (player : Player T) → IsErrAnd result (λ e. e ≡ Memory) → TellsAll Tells p records result player player
running_none {A} Tells p records (Err e) player same = record { told = tell_on {A = A} Tells Memory (Err e) (all_cues p records) player.teller player.teller same (heard_none Tells (all_cues p records) player.teller); count = tt }
running_none Tells p records (Ok value) player same = absurd same

-- all records were played
pub running_last : {A T : Type 0} (Tells : T → Cue → Outcome → T → Type 0) (p : PolicyView) (file : List ℕ) (all : List Item) (value : A) (before now : Player T) (old : List (Option Switch)) → Running Tells p file all [] before now old → TellsAll Tells p (told_in file all) (Ok value) before now
running_last Tells p file all value before now old s =
    let all_counted = s.count in
    record {
      told = subst (λ (t : List Cue). ToldWhole Tells before.teller t now.teller) (sym (append-nil s.done) ∙ ap (λ (lines : List Cue). s.done ++ lines) (sym (no_lines p now.place.number s.past)) ∙ s.whole) s.told;
      count = omega (arith, all_counted);
    }

-- and each switch is the one after all records
pub running_stand : {T : Type 0} (Tells : T → Cue → Outcome → T → Type 0) (p : PolicyView) (file : List ℕ) (all : List Item) (before now : Player T) (switches : List (Option Switch)) → Running Tells p file all [] before now switches → SwitchesStand p (reverse (told_in file all)) switches
running_stand Tells p file all before now switches s =
    subst (λ (records : List Told). SwitchesStand p records switches) (sym (reverse-reverse s.past) ∙ ap (λ (records : List Told). reverse records) (sym (append-nil (reverse s.past)) ∙ s.order)) s.stands
