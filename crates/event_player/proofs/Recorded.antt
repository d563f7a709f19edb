-- Connections and histories after one record more.
use Rattle.std.proofs.Common.{◌≡◌, ◌<◌, ◌≤◌, ◌==◌, ℕ, zero, suc, Bool, true, false, if◌then◌else◌, List, [], ◌∷◌, ◌++◌, map, drop, set, ltb, length, refl, sym, ap, ◌∙◌, subst, eq-eqb, Some, Err, slice_get, get_or}
use Rattle.std.proofs.lemmas.Option.{slice_get_read, none-some, same_Some}
use Rattle.std.proofs.lemmas.List.{length-set, set_past}
use Rattle.std.proofs.Math.Dec.{eqb-zero-suc, eqb-suc-zero, eqb-suc-suc}
use Rattle.std.proofs.Common.{inl, inr}
use Rattle.std.proofs.lemmas.Bool.{cases_Bool, cases_eq, ltb-true, ltb-false, ne_eqb}
use Rattle.std.proofs.lemmas.List.Elements.{All-nil}
use Rattle.std.proofs.Math.Nat.{le_refl}
use Rattle.of10_ctl.specs.Streams.{Stream, Stands, frames_at, frames_of}
use Rattle.flowspace.specs.Policies.{PolicyView}
use Rattle.recording.specs.declared.item.Item.{Item}
use Rattle.recording.specs.Recordings.{Told, switch_up, switch_bytes, slice_up, slice_bytes}
use Rattle.desk_words.specs.declared.event.Event.{Event}
use Rattle.desk_words.specs.declared.event.Timed.{Timed}
use Rattle.desk_words.specs.declared.dest.Dest.{Dest}
use Rattle.desk_words.specs.declared.dest.Dest.TheVariants.{Switch as ToSwitch, Slice}
use Rattle.desk_words.specs.Recorded.{told_by, begins_stream, is_same_stream, stream_before, completed, happenings, history_of, history_at, events_in, next_after}
use Rattle.desk_words.proofs.Completed.{frames_first, others_behind}
use Rattle.answer_bounds.specs.Bounds.{IsFramed, AreFramed}
use Rattle.std.specs.Result.{IsErrAnd}
use Rattle.event_player.specs.declared.fault.ReportFault.{ReportFault}
use Rattle.event_player.specs.declared.fault.ReportFault.TheVariants.{Memory}
use Rattle.event_player.specs.declared.player.Player.{Player}
use Rattle.event_player.specs.Telling.{Cue, Outcome, cues_after}
use Rattle.event_player.specs.Players.{later, scene_of}
use Rattle.proxy_core.specs.declared.desk.Desk.{Desk}
use Rattle.event_player.specs.declared.switch.Switch.{Switch}
use Rattle.event_player.specs.declared.streams.Streams.{Streams}
use Rattle.event_player.specs.Holding.{IsQuiet}
use Rattle.event_player.specs.Plays.{event_from, happening, Rests, PlaysEvents, Plays, PlaysFrames}
use Rattle.event_player.proofs.Happening.{happening_is}
use Rattle.event_player.specs.Switches.{SwitchStands, IsFoundWhere, RecordPlayed, PlaysRecord, IsTurn, Readies, kind_from, slot_from, told_from}
use Rattle.event_player.proofs.Players.{told_none, told_on, told_so}
use Rattle.event_player.specs.Streams.{Restarts, NothingCame, connection, StreamStands, StreamsStand}

pub same_number : (n : ℕ) → (n == n) ≡ true
same_number n = eq-eqb n n refl

-- ---- histories

-- the history after a record is the one before it, and then its events
pub history_more : (p : PolicyView) (r : Told) (before : List Told) → history_of p r.switch (r ∷ before) ≡ next_after (history_at p r before) (events_in p r before)
history_more p r before = rw (same_number r.switch) refl

-- another switch's history stays
pub history_other : (p : PolicyView) (number : ℕ) (r : Told) (before : List Told) → (r.switch == number) ≡ false → history_of p number (r ∷ before) ≡ history_of p number before
history_other p number r before is = rw is refl

-- ---- streams

-- only what connection a record is of matters
stream_by : (r : Told) (before : List Told) → stream_before r before ≡ stream_before (connection r.switch r.kind r.slot) before
stream_by r [] = refl
stream_by r (other ∷ before) = ap (λ (bytes : List ℕ). if begins_stream r other then [] else if is_same_stream r other then bytes ++ other.bytes else bytes) (stream_by r before)

-- another switch's connections stay
pub stream_other : (switch kind slot : ℕ) (r : Told) (before : List Told) → (r.switch == switch) ≡ false → stream_before (connection switch kind slot) (r ∷ before) ≡ stream_before (connection switch kind slot) before
stream_other switch kind slot r before is = rw is refl

-- frames of some bytes and those that more bytes complete are all
pub frames_fed : (fed bytes : List ℕ) → frames_of fed ++ drop (length (frames_of fed)) (frames_of (fed ++ bytes)) ≡ frames_of (fed ++ bytes)
frames_fed fed bytes = others_behind (frames_of fed) (frames_of (fed ++ bytes)) (frames_first (length fed) fed bytes (le_refl _))

pub no_frames : [] ≡ frames_of []
unfolding frames_of frames_at
no_frames = refl

-- ---- the connections of a switch after a record of it

-- a framer stands for the same stream still
kept : (switch kind slot : ℕ) (r : Told) (before : List Told) (framer : Stream) → stream_before (connection switch kind slot) (r ∷ before) ≡ stream_before (connection switch kind slot) before
    → StreamStands (connection switch kind slot) before framer → StreamStands (connection switch kind slot) (r ∷ before) framer
kept switch kind slot r before framer same stands = subst (λ (bytes : List ℕ). Stands framer bytes (frames_of bytes)) (sym same) stands

-- one to which nothing was fed stands for a connection on which nothing came
fresh : (switch kind slot : ℕ) (before : List Told) (framer : Stream) → stream_before (connection switch kind slot) before ≡ [] → Stands framer [] [] → StreamStands (connection switch kind slot) before framer
fresh switch kind slot before framer empty stands = subst (λ (bytes : List ℕ). Stands framer bytes (frames_of bytes)) (sym empty) (subst (Stands framer []) no_frames stands)

-- fresh streams are those of a switch on which nothing came
pub streams_fresh : (slices switch : ℕ) (before : List Told) (streams : Streams) → stream_before (connection switch switch_bytes 0) before ≡ [] → ((slot : ℕ) → stream_before (connection switch slice_bytes slot) before ≡ [])
    → NothingCame slices streams → StreamsStand slices switch before streams
streams_fresh slices switch before streams of_switch of_slices are = record {
  of_switch = fresh switch switch_bytes 0 before streams.switch of_switch are.0;
  number = are.1.number;
  of_slices = λ at framer is. fresh switch slice_bytes at before framer (of_slices at) (are.1.each at framer is);
}

-- the switch connected
streams_up : (slices switch slot moment : ℕ) (bytes : List ℕ) (before : List Told) (streams : Streams) → NothingCame slices streams
    → StreamsStand slices switch (record { kind = switch_up; switch = switch; slot = slot; moment = moment; bytes = bytes } ∷ before) streams
streams_up slices switch slot moment bytes before streams are =
    let r : Told = record { kind = switch_up; switch = switch; slot = slot; moment = moment; bytes = bytes } in
    streams_fresh slices switch (r ∷ before) streams (rw (same_number switch) refl) (λ at. rw (same_number switch) refl) are

-- bytes of the switch
pub streams_heard : (slices switch moment : ℕ) (bytes : List ℕ) (before : List Told) (old new : Streams) → StreamsStand slices switch before old → new.slices ≡ old.slices
    → Stands new.switch (stream_before (connection switch switch_bytes 0) before ++ bytes) (frames_of (stream_before (connection switch switch_bytes 0) before ++ bytes))
    → StreamsStand slices switch (record { kind = switch_bytes; switch = switch; slot = 0; moment = moment; bytes = bytes } ∷ before) new
streams_heard slices switch moment bytes before old new stands same own =
    let r : Told = record { kind = switch_bytes; switch = switch; slot = 0; moment = moment; bytes = bytes } in
    let more : stream_before (connection switch switch_bytes 0) (r ∷ before) ≡ stream_before (connection switch switch_bytes 0) before ++ bytes = rw (same_number switch) refl in
    record {
      of_switch = subst (λ (b : List ℕ). Stands new.switch b (frames_of b)) (sym more) own;
      number = ap (λ v. length v.items) same ∙ stands.number;
      of_slices = λ at framer is. kept switch slice_bytes at r before framer (rw (same_number switch) refl) (stands.of_slices at framer (ap (λ v. slice_get v.items at) (sym same) ∙ is));
    }

-- what holds of the other elements and of a new one holds after one was replaced
pub set_get : {X : Type 0} (P : ℕ → X → Type 0) (xs : List X) (at : ℕ) (x : X) → ((other : ℕ) (y : X) → (at == other) ≡ false → slice_get xs other ≡ Some y → P other y) → P at x
    → (other : ℕ) (y : X) → slice_get (set xs at x) other ≡ Some y → P other y
set_get P [] at x others own other y is = absurd (none-some y is)
set_get P (z ∷ zs) zero x others own zero y is = subst (P 0) (same_Some x y is) own
set_get P (z ∷ zs) zero x others own (suc other) y is = others (suc other) y (eqb-zero-suc other) is
set_get P (z ∷ zs) (suc at) x others own zero y is = others 0 y (eqb-suc-zero at) is
set_get P (z ∷ zs) (suc at) x others own (suc other) y is = set_get (λ n. P (suc n)) zs at x (λ k w unlike g. others (suc k) w (eqb-suc-suc at k ∙ unlike) g) own other y is

-- the framer at one slot was replaced, and the other streams stay
streams_set : (slices slot : ℕ) (r : Told) (before : List Told) (old new : Streams) (framer : Stream) → StreamsStand slices r.switch before old → new.switch ≡ old.switch → new.slices.items ≡ set old.slices.items slot framer
    → stream_before (connection r.switch switch_bytes 0) (r ∷ before) ≡ stream_before (connection r.switch switch_bytes 0) before
    → ((other : ℕ) → (slot == other) ≡ false → stream_before (connection r.switch slice_bytes other) (r ∷ before) ≡ stream_before (connection r.switch slice_bytes other) before)
    → StreamStands (connection r.switch slice_bytes slot) (r ∷ before) framer → StreamsStand slices r.switch (r ∷ before) new
streams_set slices slot r before old new framer stands same replaced of_switch of_others own = record {
  of_switch = kept r.switch switch_bytes 0 r before new.switch of_switch (subst (StreamStands (connection r.switch switch_bytes 0) before) (sym same) stands.of_switch);
  number = ap length replaced ∙ length-set old.slices.items slot framer ∙ stands.number;
  of_slices = λ at f is.
      set_get (λ n s. StreamStands (connection r.switch slice_bytes n) (r ∷ before) s) old.slices.items slot framer
      (λ other s unlike g. kept r.switch slice_bytes other r before s (of_others other unlike) (stands.of_slices other s g)) own at f (ap (λ xs. slice_get xs at) (sym replaced) ∙ is);
}

-- a slice's controller connected
streams_slice_up : (slices switch slot moment : ℕ) (bytes : List ℕ) (before : List Told) (old new : Streams) (framer : Stream) → StreamsStand slices switch before old → new.switch ≡ old.switch
    → new.slices.items ≡ set old.slices.items slot framer → Stands framer [] [] → StreamsStand slices switch (record { kind = slice_up; switch = switch; slot = slot; moment = moment; bytes = bytes } ∷ before) new
streams_slice_up slices switch slot moment bytes before old new framer stands same replaced own =
    let r : Told = record { kind = slice_up; switch = switch; slot = slot; moment = moment; bytes = bytes } in
    streams_set slices slot r before old new framer stands same replaced (rw (same_number switch) refl) (λ other unlike. rw (same_number switch, unlike) refl)
    (fresh switch slice_bytes slot (r ∷ before) framer (rw (same_number switch, same_number slot) refl) own)

-- bytes of a slice's controller
pub streams_slice_heard : (slices switch slot moment : ℕ) (bytes : List ℕ) (before : List Told) (old new : Streams) (framer : Stream) → StreamsStand slices switch before old → new.switch ≡ old.switch
    → new.slices.items ≡ set old.slices.items slot framer
    → Stands framer (stream_before (connection switch slice_bytes slot) before ++ bytes) (frames_of (stream_before (connection switch slice_bytes slot) before ++ bytes))
    → StreamsStand slices switch (record { kind = slice_bytes; switch = switch; slot = slot; moment = moment; bytes = bytes } ∷ before) new
streams_slice_heard slices switch slot moment bytes before old new framer stands same replaced own =
    let r : Told = record { kind = slice_bytes; switch = switch; slot = slot; moment = moment; bytes = bytes } in
    let more : stream_before (connection switch slice_bytes slot) (r ∷ before) ≡ stream_before (connection switch slice_bytes slot) before ++ bytes = rw (same_number switch, same_number slot) refl in
    streams_set slices slot r before old new framer stands same replaced (rw (same_number switch) refl) (λ other unlike. rw (same_number switch, unlike) refl)
    (subst (λ (b : List ℕ). Stands framer b (frames_of b)) (sym more) own)

-- ---- one record played

-- a switch that rests after a record's events, and whose streams are those with the record
pub switch_after : (p : PolicyView) (r : Told) (before : List Told) (new : Switch) → Rests p (history_at p r before) (events_in p r before) new.desk → StreamsStand (length p.slices) r.switch (r ∷ before) new.streams → SwitchStands p r.switch (r ∷ before) new
switch_after p r before new rests streams = record {
  quiet = subst (λ (h : List Timed). IsQuiet p h new.desk) (sym (history_more p r before)) rests.quiet;
  framed = subst AreFramed (sym (history_more p r before)) rests.framed;
  streams = streams;
}

-- a stream at a slot that isn't there stays as it is
pub nothing_restarts : (xs : List Stream) (at : ℕ) → length xs ≤ at → Restarts at xs xs
nothing_restarts xs at past = (record { left = []; ended = false }, sym (set_past xs at _ past), record { ended = refl; frames = λ later. refl })

-- a record of a kind that is known
told_kind : (item : Item) (bytes : List ℕ) (kind : ℕ) → item.kind ≡ kind → told_by item bytes ≡ (let r : Told = record { kind = kind; switch = item.switch; slot = item.slot; moment = item.moment; bytes = bytes } in r)
told_kind item bytes kind is = ap (λ (k : ℕ). let r : Told = record { kind = k; switch = item.switch; slot = item.slot; moment = item.moment; bytes = bytes } in r) is

pub by_kind : {T : Type 0} (Tells : T → Cue → Outcome → T → Type 0) (item : Item) (bytes : List ℕ) (kind : ℕ) (outcome : Outcome) (before after : Player T) (old new : Switch) → item.kind ≡ kind
    → PlaysRecord Tells (record { kind = kind; switch = item.switch; slot = item.slot; moment = item.moment; bytes = bytes }) outcome before after old new → PlaysRecord Tells (told_by item bytes) outcome before after old new
by_kind Tells item bytes kind outcome before after old new is plays = subst (λ (r : Told). PlaysRecord Tells r outcome before after old new) (sym (told_kind item bytes kind is)) plays

-- a record of a switch's bytes, whose slot is 0
pub by_bytes : {T : Type 0} (Tells : T → Cue → Outcome → T → Type 0) (item : Item) (bytes : List ℕ) (outcome : Outcome) (before after : Player T) (old new : Switch) → item.kind ≡ switch_bytes → item.slot ≡ 0
    → PlaysRecord Tells (told_from ToSwitch item.switch item.moment bytes) outcome before after old new → PlaysRecord Tells (told_by item bytes) outcome before after old new
by_bytes Tells item bytes outcome before after old new is none plays =
    by_kind Tells item bytes switch_bytes outcome before after old new is
    (subst (λ (s : ℕ). PlaysRecord Tells (record { kind = switch_bytes; switch = item.switch; slot = s; moment = item.moment; bytes = bytes }) outcome before after old new) (sym none) plays)

-- the frames that a record completes, by its connection
completed_by : (r : Told) (before : List Told) → (let fed = stream_before (connection r.switch r.kind r.slot) before in drop (length (frames_of fed)) (frames_of (fed ++ r.bytes))) ≡ completed r before
completed_by r before = ap (λ (fed : List ℕ). drop (length (frames_of fed)) (frames_of (fed ++ r.bytes))) (sym (stream_by r before))

-- what holds where the events of a record were played, and the framer of its connection has given all frames of these bytes
abbrev pub Spoken : PolicyView → Told → List Told → List ℕ → Desk → Stream → Type 0
Spoken p r before fed desk framer = Rests p (history_at p r before) (events_in p r before) desk × Stands framer fed (frames_of fed)

-- frames of a connection that were heard are what a record of its bytes makes happen
pub heard_from : {T : Type 0} (Tells : T → Cue → Outcome → T → Type 0) (p : PolicyView) (events : ℕ) (from : Dest) (number moment : ℕ) (bytes : List ℕ) (before : List Told) (outcome : Outcome) (old new : Player T) (desk : Desk) (framer : Stream)
    → (let r = told_from from number moment bytes in let fed = stream_before (connection number (kind_from from) (slot_from from)) before in PlaysFrames Tells (scene_of p events r) from (history_of p number before) (fed ++ bytes) (drop (length (frames_of fed)) (frames_of (fed ++ bytes))) outcome old new desk framer)
    → (let r = told_from from number moment bytes in RecordPlayed Tells p events r before (Spoken p r before (stream_before (connection number (kind_from from) (slot_from from)) before ++ bytes) desk framer) outcome old new)
heard_from Tells p events ToSwitch number moment bytes before outcome old new desk framer hears =
    let r = told_from ToSwitch number moment bytes in
    let given = Stands framer (stream_before (connection number switch_bytes 0) before ++ bytes) (frames_of (stream_before (connection number switch_bytes 0) before ++ bytes)) in
    let h = history_at p r before in
    subst (λ (own : List Timed). PlaysEvents Tells (scene_of p events r) h own (Rests p h own desk × given) outcome old new) (happening_is p r before)
    (subst (λ (frames : List (List ℕ)). let own = happening p moment h (map (event_from ToSwitch) frames) in PlaysEvents Tells (scene_of p events r) h own (Rests p h own desk × given) outcome old new) (completed_by r before) hears)
heard_from Tells p events (Slice slot) number moment bytes before outcome old new desk framer hears =
    let r = told_from (Slice slot) number moment bytes in
    let given = Stands framer (stream_before (connection number slice_bytes slot) before ++ bytes) (frames_of (stream_before (connection number slice_bytes slot) before ++ bytes)) in
    let h = history_at p r before in
    subst (λ (own : List Timed). PlaysEvents Tells (scene_of p events r) h own (Rests p h own desk × given) outcome old new) (happening_is p r before)
    (subst (λ (frames : List (List ℕ)). let own = happening p moment h (map (event_from (Slice slot)) frames) in PlaysEvents Tells (scene_of p events r) h own (Rests p h own desk × given) outcome old new) (completed_by r before) hears)

-- the one thing that a record can make happen is its one event
pub one_played : {T : Type 0} (Tells : T → Cue → Outcome → T → Type 0) (p : PolicyView) (number : ℕ) (r : Told) (before : List Told) (event : Event) (outcome : Outcome) (old new : Player T) (desk : Desk) → happenings r before ≡ event ∷ []
    → Plays Tells (scene_of p number r) (history_at p r before) (event ∷ []) outcome old new desk → RecordPlayed Tells p number r before (Rests p (history_at p r before) (events_in p r before) desk) outcome old new
one_played Tells p number r before event outcome old new desk one plays =
    let h = history_at p r before in
    subst (λ (own : List Timed). PlaysEvents Tells (scene_of p number r) h own (Rests p h own desk) outcome old new) (ap (happening p r.moment h) (sym one) ∙ happening_is p r before) plays

-- a fault is handed on
pub played_on : {T First More : Type 0} (Tells : T → Cue → Outcome → T → Type 0) (p : PolicyView) (number : ℕ) (r : Told) (before : List Told) (fault : ReportFault) (outcome : Outcome) (old new : Player T) → IsErrAnd outcome (λ e. e ≡ fault)
    → RecordPlayed Tells p number r before First (Err fault) old new → RecordPlayed Tells p number r before More outcome old new
played_on Tells p number r before fault outcome old new same played =
    let scene = later (length (events_in p r before)) (scene_of p number r) in
    told_on Tells scene scene fault outcome (cues_after p (record { number = number; switch = r.switch }) (history_at p r before) (events_in p r before)) old new same played

-- memory ran out before anything was played
pub played_none : {T More : Type 0} (Tells : T → Cue → Outcome → T → Type 0) (p : PolicyView) (number : ℕ) (r : Told) (before : List Told) (outcome : Outcome) (player : Player T) → IsErrAnd outcome (λ e. e ≡ Memory) → RecordPlayed Tells p number r before More outcome player player
played_none Tells p number r before outcome player same =
    told_none Tells (later (length (events_in p r before)) (scene_of p number r)) outcome (cues_after p (record { number = number; switch = r.switch }) (history_at p r before) (events_in p r before)) player same

-- what follows otherwise from a record that was played
pub played_so : {T First More : Type 0} (Tells : T → Cue → Outcome → T → Type 0) (p : PolicyView) (number : ℕ) (r : Told) (before : List Told) (outcome : Outcome) (old new : Player T) → (First → More)
    → RecordPlayed Tells p number r before First outcome old new → RecordPlayed Tells p number r before More outcome old new
played_so Tells p number r before outcome old new so played =
    told_so Tells (later (length (events_in p r before)) (scene_of p number r)) outcome (cues_after p (record { number = number; switch = r.switch }) (history_at p r before) (events_in p r before)) old new so played

pub less_or_more : (n m : ℕ) → (n < m → ⊥) → m ≤ n
less_or_more n m unlike = elim (cases_Bool (ltb n m)) [ inl is ↦ absurd (unlike (ltb-true n m is)) | inr isnt ↦ ltb-false n m isnt ]

pub found : {X : Type 0} (xs : List X) (at : ℕ) (x : X) → ltb at (length xs) ≡ true → x ≡ get_or xs at x → slice_get xs at ≡ Some x
found xs at x within is = slice_get_read xs (length xs) at x refl (ltb-true at (length xs) within) is

-- a record that carries no byte of a switch's connections and begins none of them leaves their streams
pub streams_stay : (slices switch : ℕ) (r : Told) (before : List Told) (streams : Streams) → stream_before (connection switch switch_bytes 0) (r ∷ before) ≡ stream_before (connection switch switch_bytes 0) before
    → ((slot : ℕ) → stream_before (connection switch slice_bytes slot) (r ∷ before) ≡ stream_before (connection switch slice_bytes slot) before) → StreamsStand slices switch before streams → StreamsStand slices switch (r ∷ before) streams
streams_stay slices switch r before streams of_switch of_slices stands = record {
  of_switch = kept switch switch_bytes 0 r before streams.switch of_switch stands.of_switch;
  number = stands.number;
  of_slices = λ at framer is. kept switch slice_bytes at r before framer (of_slices at) (stands.of_slices at framer is);
}

-- the switch connected
pub ready_up : (p : PolicyView) (item : Item) (switch : Switch) → item.kind ≡ switch_up → Readies p (told_by item []) switch switch
ready_up p item switch is = subst (λ (r : Told). Readies p r switch switch) (sym (told_kind item [] switch_up is)) (λ before fresh. record {
  quiet = fresh.quiet;
  framed = All-nil (λ (t : Timed). IsFramed t.event);
  streams = streams_up (length p.slices) item.switch item.slot item.moment [] before switch.streams fresh.streams;
})

-- a slice's controller connected
pub ready_slice_up : (p : PolicyView) (item : Item) (old new : Switch) → item.kind ≡ slice_up → new.desk ≡ old.desk → new.streams.switch ≡ old.streams.switch → Restarts item.slot old.streams.slices.items new.streams.slices.items → Readies p (told_by item []) old new
ready_slice_up p item old new is desk same restarts = subst (λ (r : Told). Readies p r old new) (sym (told_kind item [] slice_up is)) (λ before stands. record {
  quiet = subst (IsQuiet p (history_of p item.switch before)) (sym desk) stands.quiet;
  framed = stands.framed;
  streams = streams_slice_up (length p.slices) item.switch item.slot item.moment [] before old.streams new.streams restarts.0 stands.streams same restarts.1 restarts.2;
})

-- a connection ended
pub ready_down : (p : PolicyView) (item : Item) (switch : Switch) → IsTurn item.kind → (item.kind ≡ switch_up → ⊥) → (item.kind ≡ slice_up → ⊥) → Readies p (told_by item []) switch switch
ready_down p item switch turn no_up no_slice_up before found =
    let r = told_by item [] in
    let same = same_number item.switch in
    let up = ne_eqb item.kind switch_up no_up in
    let stands = subst (λ (comes : Bool). IsFoundWhere comes p r before switch) up found in
    let slice = ne_eqb item.kind slice_up no_slice_up in
    let of_switch = ne_eqb item.kind switch_bytes turn.0 in
    let of_slice = ne_eqb item.kind slice_bytes turn.1 in
    record {
      quiet = rw up stands.quiet;
      framed = rw up stands.framed;
      streams = streams_stay (length p.slices) item.switch r before switch.streams (rw (same, up, of_switch) refl) (λ slot. rw (same, up, slice, of_slice) refl) stands.streams;
    }

-- a connection turns that isn't a slice's that comes
pub ready_other : (p : PolicyView) (item : Item) (switch : Switch) → IsTurn item.kind → (item.kind ≡ slice_up → ⊥) → Readies p (told_by item []) switch switch
ready_other p item switch turn no_slice_up = elim (cases_eq item.kind switch_up) [
  | inl is ↦ ready_up p item switch is
  | inr no_up ↦ ready_down p item switch turn no_up no_slice_up
]
