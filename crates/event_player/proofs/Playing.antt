-- Events that are played one after another.
use Rattle.std.proofs.Common.{◌≡◌, ◌+◌, ℕ, Bool, true, false, if◌then◌else◌, List, [], ◌∷◌, ◌++◌, map, length, refl, sym, ap, ◌∙◌, append_assoc, subst, Some, None, Result, Ok, Err, arith}
use Rattle.std.specs.Result.{IsErrAnd}
use Rattle.std.proofs.lemmas.List.{append-nil, length-append}
use Rattle.std.proofs.lemmas.List.Elements.{All-cons}
use Rattle.flowspace.specs.Policies.{PolicyView}
use Rattle.of10_ctl.specs.Frames.{IsFrame}
use Rattle.of10_ctl.specs.Streams.{Stream, Stands, frames_of}
use Rattle.answer_bounds.specs.Bounds.{IsFramed, AreFramed}
use Rattle.desk_words.specs.declared.event.Event.{Event}
use Rattle.desk_words.specs.declared.event.Timed.{Timed}
use Rattle.desk_words.specs.declared.dest.Dest.{Dest}
use Rattle.desk_words.specs.declared.dest.Dest.TheVariants.{Switch, Slice}
use Rattle.desk_words.specs.Verdicts.{is_over}
use Rattle.desk_words.specs.Recorded.{timed_at, next_of, next_after, each_after, happens}
use Rattle.proxy_core.specs.declared.desk.Desk.{Desk}
use Rattle.desk_words.proofs.Reporting.{at_once, each_both, count_of_each}
use Rattle.event_player.specs.declared.fault.ReportFault.{ReportFault}
use Rattle.event_player.specs.declared.fault.ReportFault.TheVariants.{Memory}
use Rattle.event_player.specs.declared.player.Player.{Player}
use Rattle.event_player.specs.Telling.{Cue, Outcome, event_cues, cues_from, cues_after}
use Rattle.event_player.specs.Holding.{IsQuiet}
use Rattle.event_player.specs.Players.{Scene, IsPlaying, PlaysOn, later, HasTold}
use Rattle.event_player.specs.Streams.{TookFrame}
use Rattle.event_player.specs.Plays.{event_from, happening, Rests, PlaysEvents, Plays, PlaysFrames}
use Rattle.event_player.proofs.Cues.{cues_from_both}
use Rattle.event_player.proofs.Streaming.{next_left, nothing_left}
use Rattle.event_player.proofs.Players.{later_none, later_both, told_nothing, told_none, told_second, told_first, told_as, told_so, told_still}

-- ---- one event

pub framed_from : (from : Dest) (frame : List ℕ) → IsFrame frame → IsFramed (event_from from frame)
framed_from Switch frame is = is
framed_from (Slice slot) frame is = is

framed_next : (h : List Timed) (timed : Timed) (b : Bool) → AreFramed h → IsFramed timed.event → AreFramed (if b then h else timed ∷ h)
framed_next h timed true framed one = framed
framed_next h timed false framed one = All-cons (λ (t : Timed). IsFramed t.event) timed h one framed

one_event : (p : PolicyView) (moment : ℕ) (h : List Timed) (event : Event) → happens p h event ≡ true → happening p moment h (event ∷ []) ≡ timed_at moment event ∷ []
one_event p moment h event is = rw is refl

no_event : (p : PolicyView) (moment : ℕ) (h : List Timed) (event : Event) → happens p h event ≡ false → happening p moment h (event ∷ []) ≡ []
no_event p moment h event is = rw is refl

-- what holds of a list of events holds of what happens of one event that does
played_as : {T : Type 0} (Tells : T → Cue → Outcome → T → Type 0) (scene : Scene) (h : List Timed) (event : Event) (outcome : Outcome) (old new : Player T) (desk : Desk) → happens scene.policy h event ≡ true
    → PlaysEvents Tells scene h (timed_at scene.moment event ∷ []) (Rests scene.policy h (timed_at scene.moment event ∷ []) desk) outcome old new → Plays Tells scene h (event ∷ []) outcome old new desk
played_as Tells scene h event outcome old new desk is played =
    subst (λ (own : List Timed). PlaysEvents Tells scene h own (Rests scene.policy h own desk) outcome old new) (sym (one_event scene.policy scene.moment h event is)) played

-- the event was played, and counted if there is a number for it
pub played_one : {T : Type 0} (Tells : T → Cue → Outcome → T → Type 0) (scene : Scene) (h : List Timed) (event : Event) (value : Unit {0}) (outcome : Outcome) (old now new : Player T) (desk : Desk) → happens scene.policy h event ≡ true → AreFramed h → IsFramed event
    → HasTold {A = Unit {0}} Tells scene (IsQuiet scene.policy (next_of h (timed_at scene.moment event)) desk) (Ok value) (event_cues scene.policy scene.place h (timed_at scene.moment event)) old now
    → HasTold Tells (later 1 scene) (Unit {0}) outcome [] now new → Plays Tells scene h (event ∷ []) outcome old new desk
unfolding cues_from
played_one Tells scene h event value outcome old now new desk is framed one turned counted =
    let timed = timed_at scene.moment event in
    played_as Tells scene h event outcome old new desk is
    (told_second Tells scene (later 1 scene) value outcome (event_cues scene.policy scene.place h timed) [] old now new turned
    (told_so Tells (later 1 scene) outcome [] now new (λ _. record { quiet = turned.more; framed = framed_next h timed (is_over h) framed one }) counted))

-- a fault came in its lines
pub failed_one : {T : Type 0} (Tells : T → Cue → Outcome → T → Type 0) (scene : Scene) (h : List Timed) (event : Event) (fault : ReportFault) (outcome : Outcome) (old new : Player T) (desk : Desk) → happens scene.policy h event ≡ true → IsErrAnd outcome (λ e. e ≡ fault)
    → HasTold {A = Unit {0}} Tells scene (IsQuiet scene.policy (next_of h (timed_at scene.moment event)) desk) (Err fault) (event_cues scene.policy scene.place h (timed_at scene.moment event)) old new → Plays Tells scene h (event ∷ []) outcome old new desk
unfolding cues_from
failed_one Tells scene h event fault outcome old new desk is same turned =
    played_as Tells scene h event outcome old new desk is (told_first Tells scene (later 1 scene) fault outcome (event_cues scene.policy scene.place h (timed_at scene.moment event)) [] old new same turned)

-- nothing happened
pub played_none : {T : Type 0} (Tells : T → Cue → Outcome → T → Type 0) (scene : Scene) (h : List Timed) (event : Event) (player : Player T) (desk : Desk) → happens scene.policy h event ≡ false → IsPlaying scene player → IsQuiet scene.policy h desk → AreFramed h → Plays Tells scene h (event ∷ []) (Ok tt) player player desk
unfolding cues_from
played_none Tells scene h event player desk isnt is quiet framed =
    subst (λ (own : List Timed). PlaysEvents Tells scene h own (Rests scene.policy h own desk) (Ok tt) player player) (sym (no_event scene.policy scene.moment h event isnt))
    (told_nothing Tells (later 0 scene) tt player (subst (λ (s : Scene). IsPlaying s player) (sym (later_none scene)) is) (record { quiet = quiet; framed = framed }))

-- ---- events one after another

-- the first and the others
happening_first : (p : PolicyView) (moment : ℕ) (h : List Timed) (event : Event) (later : List Event) (b : Bool) → happens p h event ≡ b
    → happening p moment h (event ∷ later) ≡ happening p moment h (event ∷ []) ++ happening p moment (next_after h (happening p moment h (event ∷ []))) later
happening_first p moment h event later true is = rw is refl
happening_first p moment h event later false is = rw is refl

next_after_both : (h first second : List Timed) → next_after h (first ++ second) ≡ next_after (next_after h first) second
next_after_both h [] second = refl
next_after_both h (timed ∷ first) second = next_after_both (next_of h timed) first second

lines_both : (p : PolicyView) (number switch : ℕ) (h first second : List Timed)
    → cues_after p (record { number = number; switch = switch }) h (first ++ second) ≡ cues_after p (record { number = number; switch = switch }) h first ++ cues_after p (record { number = number + length first; switch = switch }) (next_after h first) second
lines_both p number switch h first second =
    let earlier = each_after switch h first in
    let later = each_after switch (next_after h first) second in
    ap (cues_from p number) (each_both switch h first second) ∙ cues_from_both p number earlier later ∙ ap (λ (n : ℕ). cues_from p number earlier ++ cues_from p (number + n) later) (count_of_each switch h first)

-- ---- the frames of a connection

-- so far: these frames are left of a connection, and the lines of the others are reported
pub record Hearing {T : Type 0} (Tells : T → Cue → Outcome → T → Type 0) (scene : Scene) (from : Dest) (first : List Timed) (all : List (List ℕ)) (fed : List ℕ) (before now : Player T) (desk : Desk) (framer : Stream) : Type 0 where
  pub h : List Timed
  pub given : List (List ℕ)
  pub rest : List (List ℕ)
  pub quiet : IsQuiet scene.policy h desk
  pub framed : AreFramed h
  pub stands : Stands framer fed given
  pub cut : given ++ rest ≡ frames_of fed
  pub events : ℕ
  pub done : List Cue
  pub told : HasTold {A = Unit {0}} Tells (later events scene) (Unit {0}) (Ok tt) done before now
  pub lines : done ++ cues_after scene.policy (later events scene).place h (happening scene.policy scene.moment h (map (event_from from) rest)) ≡ cues_after scene.policy scene.place first (happening scene.policy scene.moment first (map (event_from from) all))
  pub count : events + length (happening scene.policy scene.moment h (map (event_from from) rest)) ≡ length (happening scene.policy scene.moment first (map (event_from from) all))
  pub next : next_after h (happening scene.policy scene.moment h (map (event_from from) rest)) ≡ next_after first (happening scene.policy scene.moment first (map (event_from from) all))

-- what comes after it changes nothing of what was heard
pub hearing_still : {T : Type 0} (Tells : T → Cue → Outcome → T → Type 0) (scene : Scene) (from : Dest) (first : List Timed) (all : List (List ℕ)) (fed : List ℕ) (before now later_on : Player T) (desk : Desk) (framer : Stream)
    → PlaysOn now later_on → Hearing Tells scene from first all fed before now desk framer → Hearing Tells scene from first all fed before later_on desk framer
hearing_still Tells scene from first all fed before now later_on desk framer on s = record {
  h = s.h;
  given = s.given;
  rest = s.rest;
  quiet = s.quiet;
  framed = s.framed;
  stands = s.stands;
  cut = s.cut;
  events = s.events;
  done = s.done;
  told = told_still Tells (later s.events scene) (Ok tt) s.done before now later_on on s.told;
  lines = s.lines;
  count = s.count;
  next = s.next;
}

pub hearing_first : {T : Type 0} (Tells : T → Cue → Outcome → T → Type 0) (scene : Scene) (from : Dest) (h : List Timed) (fed : List ℕ) (given rest : List (List ℕ)) (player : Player T) (desk : Desk) (framer : Stream)
    → IsPlaying scene player → IsQuiet scene.policy h desk → AreFramed h → Stands framer fed given → given ++ rest ≡ frames_of fed → Hearing Tells scene from h rest fed player player desk framer
hearing_first Tells scene from h fed given rest player desk framer is quiet framed stands cut = record {
  h = h;
  given = given;
  rest = rest;
  quiet = quiet;
  framed = framed;
  stands = stands;
  cut = cut;
  events = 0;
  done = [];
  told = told_nothing Tells (later 0 scene) tt player (subst (λ (s : Scene). IsPlaying s player) (sym (later_none scene)) is) tt;
  lines = ap (λ (s : Scene). cues_after scene.policy s.place h (happening scene.policy scene.moment h (map (event_from from) rest))) (later_none scene);
  count = omega arith;
  next = refl;
}

-- what the next frame of a connection makes happen, and then the others
next_happening : (p : PolicyView) (moment : ℕ) (from : Dest) (h : List Timed) (rest others : List (List ℕ)) (frame : List ℕ) → rest ≡ frame ∷ others
    → happening p moment h (map (event_from from) rest) ≡ (let own = happening p moment h (event_from from frame ∷ []) in own ++ happening p moment (next_after h own) (map (event_from from) others))
next_happening p moment from h rest others frame left =
    ap (λ (r : List (List ℕ)). happening p moment h (map (event_from from) r)) left ∙ happening_first p moment h (event_from from frame) (map (event_from from) others) (happens p h (event_from from frame)) refl

-- the lines of the next frame, and then those of the others
next_lines : (scene : Scene) (from : Dest) (h : List Timed) (rest others : List (List ℕ)) (frame : List ℕ) → rest ≡ frame ∷ others
    → (let own = happening scene.policy scene.moment h (event_from from frame ∷ []) in
    cues_after scene.policy scene.place h own ++ cues_after scene.policy (later (length own) scene).place (next_after h own) (happening scene.policy scene.moment (next_after h own) (map (event_from from) others)))
    ≡ cues_after scene.policy scene.place h (happening scene.policy scene.moment h (map (event_from from) rest))
next_lines scene from h rest others frame left =
    let own = happening scene.policy scene.moment h (event_from from frame ∷ []) in
    sym (lines_both scene.policy scene.place.number scene.place.switch h own (happening scene.policy scene.moment (next_after h own) (map (event_from from) others)))
    ∙ ap (cues_after scene.policy scene.place h) (sym (next_happening scene.policy scene.moment from h rest others frame left))

-- one message more was heard
pub hearing_more : {T : Type 0} (Tells : T → Cue → Outcome → T → Type 0) (scene : Scene) (from : Dest) (first : List Timed) (all : List (List ℕ)) (fed : List ℕ) (before now new : Player T) (old desk : Desk) (framer framer_after : Stream) (frame : List ℕ) (value : Unit {0})
    (s : Hearing Tells scene from first all fed before now old framer) → TookFrame (Some frame) fed s.given framer_after
    → Plays Tells (later s.events scene) s.h (event_from from frame ∷ []) (Ok value) now new desk → Hearing Tells scene from first all fed before new desk framer_after
hearing_more Tells scene from first all fed before now new old desk framer framer_after frame value s took played =
    let p = scene.policy in
    let here = later s.events scene in
    let own = happening p scene.moment s.h (event_from from frame ∷ []) in
    let others = took.0.0 in
    let left : s.rest ≡ frame ∷ others = next_left s.given s.rest others frame (frames_of fed) s.cut took.0.1 in
    let events = map (event_from from) others in
    let h = next_after s.h own in
    let split = next_happening p scene.moment from s.h s.rest others frame left in
    let text = cues_after p here.place s.h own in
    let counted = ap length split ∙ length-append own (happening p scene.moment h events) in
    let was = s.count in
    record {
      h = h;
      given = s.given ++ frame ∷ [];
      rest = others;
      quiet = played.more.quiet;
      framed = played.more.framed;
      stands = took.1;
      cut = took.0.1;
      events = s.events + length own;
      done = s.done ++ text;
      told = subst (λ (at : Scene). HasTold {A = Unit {0}} Tells at (Unit {0}) (Ok tt) (s.done ++ text) before new) (later_both s.events (length own) scene)
          (told_second Tells here (later (length own) here) tt (Ok tt) s.done text before now new s.told (told_so Tells (later (length own) here) (Ok tt) text now new (λ _. tt) played));
      lines =
          append_assoc s.done text (cues_after p (later (s.events + length own) scene).place h (happening p scene.moment h events))
          ∙ ap (λ (at : Scene). s.done ++ (text ++ cues_after p at.place h (happening p scene.moment h events))) (sym (later_both s.events (length own) scene))
          ∙ ap (λ (t : List Cue). s.done ++ t) (next_lines here from s.h s.rest others frame left)
          ∙ s.lines;
      count = omega (arith, counted, was);
      next = sym (next_after_both s.h own (happening p scene.moment h events)) ∙ ap (next_after s.h) (sym split) ∙ s.next;
    }

-- a piece of the next message's lines was reported
pub hearing_part : {A T More : Type 0} (Tells : T → Cue → Outcome → T → Type 0) (scene at : Scene) (from : Dest) (first : List Timed) (all : List (List ℕ)) (fed : List ℕ) (before now new : Player T) (old desk : Desk) (framer framer_after : Stream) (frame : List ℕ) (fault : ReportFault) (result : Result A ReportFault)
    (s : Hearing Tells scene from first all fed before now old framer) → TookFrame (Some frame) fed s.given framer_after → IsErrAnd result (λ e. e ≡ fault)
    → Plays Tells (later s.events scene) s.h (event_from from frame ∷ []) (Err fault) now new desk
    → HasTold {A = A} Tells at More result (cues_after scene.policy scene.place first (happening scene.policy scene.moment first (map (event_from from) all))) before new
hearing_part {A} {T} {More} Tells scene at from first all fed before now new old desk framer framer_after frame fault result s took same part =
    let p = scene.policy in
    let here = later s.events scene in
    let own = happening p scene.moment s.h (event_from from frame ∷ []) in
    let others = took.0.0 in
    let left : s.rest ≡ frame ∷ others = next_left s.given s.rest others frame (frames_of fed) s.cut took.0.1 in
    let h = next_after s.h own in
    let text = cues_after p here.place s.h own in
    let behind = cues_after p (later (length own) here).place h (happening p scene.moment h (map (event_from from) others)) in
    told_as Tells at result (s.done ++ (text ++ behind)) (cues_after p scene.place first (happening p scene.moment first (map (event_from from) all))) before new
    (ap (λ (t : List Cue). s.done ++ t) (next_lines here from s.h s.rest others frame left) ∙ s.lines)
    (told_second Tells here at tt result s.done (text ++ behind) before now new s.told (told_first {More = More} Tells (later (length own) here) at fault result text behind now new same part))

-- memory ran out between two messages
pub hearing_stopped : {A T More : Type 0} (Tells : T → Cue → Outcome → T → Type 0) (scene at : Scene) (from : Dest) (first : List Timed) (all : List (List ℕ)) (fed : List ℕ) (before now : Player T) (desk : Desk) (framer : Stream) (result : Result A ReportFault)
    (s : Hearing Tells scene from first all fed before now desk framer) → IsErrAnd result (λ e. e ≡ Memory)
    → HasTold {A = A} Tells at More result (cues_after scene.policy scene.place first (happening scene.policy scene.moment first (map (event_from from) all))) before now
hearing_stopped {A} {T} {More} Tells scene at from first all fed before now desk framer result s same =
    let p = scene.policy in
    let here = later s.events scene in
    let left = cues_after p here.place s.h (happening p scene.moment s.h (map (event_from from) s.rest)) in
    told_as Tells at result (s.done ++ left) (cues_after p scene.place first (happening p scene.moment first (map (event_from from) all))) before now s.lines
    (told_second Tells here at tt result s.done left before now now s.told (told_none {More = More} Tells at result left now same))

-- all frames were heard
pub hearing_all : {T : Type 0} (Tells : T → Cue → Outcome → T → Type 0) (scene : Scene) (from : Dest) (first : List Timed) (all : List (List ℕ)) (fed : List ℕ) (before now : Player T) (desk : Desk) (framer framer_after : Stream)
    (s : Hearing Tells scene from first all fed before now desk framer) → TookFrame None fed s.given framer_after → PlaysFrames Tells scene from first fed all (Ok tt) before now desk framer_after
unfolding cues_from
hearing_all Tells scene from first all fed before now desk framer framer_after s took =
    let p = scene.policy in
    let m = scene.moment in
    let whole = happening p m first (map (event_from from) all) in
    let none : s.rest ≡ [] = nothing_left s.given s.rest (frames_of fed) s.cut took.0 in
    let empty : happening p m s.h (map (event_from from) s.rest) ≡ [] = ap (λ (r : List (List ℕ)). happening p m s.h (map (event_from from) r)) none in
    let number : s.events ≡ length whole = at_once s.events ∙ ap (λ (e : List Timed). s.events + length e) (sym empty) ∙ s.count in
    subst (λ (n : ℕ). HasTold {A = Unit {0}} Tells (later n scene) (Rests p first whole desk × Stands framer_after fed (frames_of fed)) (Ok tt) (cues_after p scene.place first whole) before now) number
    (told_as Tells (later s.events scene) (Ok tt) s.done (cues_after p scene.place first whole) before now
    (sym (append-nil s.done) ∙ ap (λ (e : List Timed). s.done ++ cues_after p (later s.events scene).place s.h e) (sym empty) ∙ s.lines)
    (told_so Tells (later s.events scene) (Ok tt) s.done before now (λ _. (
      record {
        quiet = subst (λ (e : List Timed). IsQuiet p e desk) (ap (next_after s.h) (sym empty) ∙ s.next) s.quiet;
        framed = subst AreFramed (ap (next_after s.h) (sym empty) ∙ s.next) s.framed;
      },
      subst (Stands framer_after fed) took.0 took.1,
    )) s.told))
