-- The lines of one event.
use Rattle.std.proofs.Common.{◌≡◌, ◌+◌, ◌^◌, ◌||◌, ◌&&◌, not, leb, ℕ, Bool, true, false, if◌then◌else◌, List, [], ◌∷◌, ◌++◌, length, refl, sym, ap, ◌∙◌, append_assoc, subst, Option, Some, None, Ok}
use Rattle.std.proofs.lemmas.List.{append-nil}
use Rattle.flowspace.specs.declared.slices.Slice.{Slice}
use Rattle.flowspace.specs.Policies.{PolicyView}
use Rattle.desk_words.specs.declared.event.Timed.{Timed}
use Rattle.desk_words.specs.Openings.{phase_of}
use Rattle.desk_words.specs.Histories.{is_slice_up}
use Rattle.desk_words.specs.declared.verdict.Verdict.{Verdict}
use Rattle.desk_words.specs.declared.verdict.Verdict.TheVariants.{Go, Close as ToClose, Ended}
use Rattle.desk_words.specs.Verdicts.{is_ended, is_over, closes, verdict}
use Rattle.desk_words.specs.Sent.{sent_by, lane_by}
use Rattle.desk_words.specs.Recorded.{next_of}
use Rattle.desk_words.specs.Reports.{LinePlace, name_at, speaker, Line, lane_lines, lines_by_slot, closing_lines, close_lines, down_line, down_lines, event_lines, close_line, closed_lines}
use Rattle.desk_words.specs.Operations.{takes_in}
use Rattle.proxy_core.specs.declared.desk.Desk.{Desk}
use Rattle.event_player.specs.Holding.{Holds, IsQuiet, After}
use Rattle.desk_words.proofs.Closing.{closed_by_verdict, none_ends}
use Rattle.event_player.specs.declared.player.Player.{Player}
use Rattle.event_player.specs.Telling.{Outcome, state_lines, lines_in_parts}
use Rattle.event_player.specs.Players.{Scene, HasTold}
use Rattle.event_player.proofs.Players.{told_as, told_so}

ends_by : (a b c : Bool) (lines : List Line) → (a || b) ≡ false → (if c then lines else []) ≡ (if not a && c then lines else [])
ends_by true b c lines is = absurd cc
ends_by false b c lines is = refl

-- the slice that spoke isn't up exactly where its connection is closed
closed_as : (p : PolicyView) (place : LinePlace) (h : List Timed) (timed : Timed) (slot : ℕ) (closed up : Bool) → up ≡ not closed → closed_lines p place slot closed ≡ closed_lines p place slot (not up) ++ []
closed_as p place h timed slot true up is = rw is refl
closed_as p place h timed slot false up is = rw is refl

-- beside its messages an event that was taken in reports of the slice that spoke, or of the switch's end
told_state : (p : PolicyView) (place : LinePlace) (h : List Timed) (timed : Timed) (speaking : Option ℕ) → speaker timed.event ≡ speaking → is_over h ≡ false
    → state_lines p place (timed ∷ h) speaking (closes p h timed) ≡ closing_lines p place (timed ∷ h) speaking ++ down_lines place h timed
told_state p place h timed None of is = ends_by (is_ended (phase_of h)) (leb (2 ^ 60) (length h)) (is_ended (phase_of (timed ∷ h))) (down_line place ∷ []) is
told_state p place h timed (Some slot) of is =
    closed_as p place h timed slot (closes p h timed) (is_slice_up p slot (timed ∷ h)) (closed_by_verdict p slot h timed of)
    ∙ ap (λ (b : Bool). closing_lines p place (timed ∷ h) (Some slot) ++ (if b then down_line place ∷ [] else [])) (sym (none_ends h timed slot of))

-- an event that was taken in
told_event : (p : PolicyView) (place : LinePlace) (h : List Timed) (timed : Timed) (closed : Bool) → is_over h ≡ false → closed ≡ closes p h timed
    → lines_in_parts p place (timed ∷ h) (λ slot. sent_by p slot h timed) (lane_by p h timed) (speaker timed.event) closed ≡ event_lines p place h timed
told_event p place h timed closed is same =
    let lane = lane_lines place (lane_by p h timed) in
    let slices = lines_by_slot place (λ slot. sent_by p slot h timed) 0 p.slices in
    let close = close_lines p place (timed ∷ h) timed.event in
    let down = down_lines place h timed in
    ap (λ (b : Bool). lane ++ (slices ++ state_lines p place (timed ∷ h) (speaker timed.event) b)) same
    ∙ ap (λ (lines : List Line). lane ++ (slices ++ lines)) (told_state p place h timed (speaker timed.event) refl is)
    ∙ sym (append_assoc lane slices (close ++ down))
    ∙ sym (append_assoc (lane ++ slices) close down)
    ∙ rw is refl

-- no messages, no lines
no_lines : (place : LinePlace) (slot : ℕ) (slices : List Slice) → lines_by_slot place (λ at. []) slot slices ≡ []
no_lines place slot [] = refl
no_lines place slot (slice ∷ others) = no_lines place (slot + 1) others

-- an event that comes when all is over
over_event : (p : PolicyView) (place : LinePlace) (h : List Timed) (timed : Timed) → is_over h ≡ true → closing_lines p place h (speaker timed.event) ≡ event_lines p place h timed
over_event p place h timed is =
    let close = close_lines p place h timed.event in
    sym (append-nil close) ∙ ap (λ (lines : List Line). lines ++ close ++ []) (sym (no_lines place 0 p.slices)) ∙ rw is refl

next_on : (h : List Timed) (timed : Timed) → is_over h ≡ false → next_of h timed ≡ timed ∷ h
next_on h timed is = rw is refl

next_over : (h : List Timed) (timed : Timed) → is_over h ≡ true → next_of h timed ≡ h
next_over h timed is = rw is refl

-- ---- verdicts

go_by : (over closing : Bool) → Go ≡ (if over then Ended else if closing then ToClose else Go) → false ≡ closing
go_by true closing is = absurd cc
go_by false true is = absurd cc
go_by false false is = refl

close_by : (over closing : Bool) → ToClose ≡ (if over then Ended else if closing then ToClose else Go) → true ≡ closing
close_by true closing is = absurd cc
close_by false true is = refl
close_by false false is = absurd cc

-- an event with a verdict was answered, and the desk is as it is after that
abbrev pub Answered : PolicyView → List Timed → Timed → Verdict → Desk → Type 0
Answered p h timed answered desk = (answered ≡ verdict p h timed) × After p h timed (takes_in (Ok answered)) desk

-- an event was taken in, its connection is closed or not, and what it makes waits
pub record IsTaken (p : PolicyView) (h : List Timed) (timed : Timed) (closed : Bool) (desk : Desk) : Type 0 where
  pub going : is_over h ≡ false
  pub closed_as : closed ≡ closes p h timed
  pub holds : Holds p (timed ∷ h) (λ slot. sent_by p slot h timed) (lane_by p h timed) desk

pub taken_going : (p : PolicyView) (h : List Timed) (timed : Timed) (answered : Verdict) (desk : Desk) → answered ≡ Go → Answered p h timed answered desk → IsTaken p h timed false desk
taken_going p h timed answered desk is reply =
    let after = subst (λ (v : Verdict). Answered p h timed v desk) is reply in
    record { going = after.1.0; closed_as = go_by (is_over h) (closes p h timed) after.0; holds = after.1.1 }

pub taken_closing : (p : PolicyView) (h : List Timed) (timed : Timed) (answered : Verdict) (desk : Desk) → answered ≡ ToClose → Answered p h timed answered desk → IsTaken p h timed true desk
taken_closing p h timed answered desk is reply =
    let after = subst (λ (v : Verdict). Answered p h timed v desk) is reply in
    record { going = after.1.0; closed_as = close_by (is_over h) (closes p h timed) after.0; holds = after.1.1 }

-- an event wasn't taken in
pub refused : (p : PolicyView) (h : List Timed) (timed : Timed) (answered : Verdict) (desk : Desk) → answered ≡ Ended → Answered p h timed answered desk → (is_over h ≡ true) × IsQuiet p h desk
refused p h timed answered desk is reply = (subst (λ (v : Verdict). Answered p h timed v desk) is reply).1

-- the line of a connection that is closed, and none of one that isn't
pub no_close : (p : PolicyView) (place : LinePlace) (slot : ℕ) (closed : Bool) → closed ≡ false → [] ≡ closed_lines p place slot closed
no_close p place slot true is = absurd cc
no_close p place slot false is = refl

pub one_closed : (p : PolicyView) (place : LinePlace) (slot : ℕ) (name : List ℕ) (closed : Bool) → closed ≡ true → name ≡ name_at p.slices slot → close_line place name ∷ [] ≡ closed_lines p place slot closed
one_closed p place slot name true is named = ap (λ (n : List ℕ). close_line place n ∷ []) named
one_closed p place slot name false is named = absurd cc

-- what is reported of an event that was taken in
pub told_taken : {T : Type 0} (Tells : T → Line → Outcome → T → Type 0) (scene : Scene) (h : List Timed) (timed : Timed) (closed : Bool) (desk new_desk : Desk) (speaking : Option ℕ) (outcome : Outcome) (old new : Player T)
    → IsTaken scene.policy h timed closed desk → speaking ≡ speaker timed.event
    → HasTold Tells scene (IsQuiet scene.policy (timed ∷ h) new_desk) outcome (lines_in_parts scene.policy scene.place (timed ∷ h) (λ slot. sent_by scene.policy slot h timed) (lane_by scene.policy h timed) speaking closed) old new
    → HasTold Tells scene (IsQuiet scene.policy (next_of h timed) new_desk) outcome (event_lines scene.policy scene.place h timed) old new
told_taken Tells scene h timed closed desk new_desk speaking outcome old new taken of told =
    let p = scene.policy in
    let place = scene.place in
    told_as Tells scene outcome (lines_in_parts p place (timed ∷ h) (λ slot. sent_by p slot h timed) (lane_by p h timed) speaking closed) (event_lines p place h timed) old new
    (ap (λ (o : Option ℕ). lines_in_parts p place (timed ∷ h) (λ slot. sent_by p slot h timed) (lane_by p h timed) o closed) of ∙ told_event p place h timed closed taken.going taken.closed_as)
    (told_so Tells scene outcome (lines_in_parts p place (timed ∷ h) (λ slot. sent_by p slot h timed) (lane_by p h timed) speaking closed) old new (λ quiet. subst (λ (events : List Timed). IsQuiet p events new_desk) (sym (next_on h timed taken.going)) quiet) told)

-- what is reported of one that wasn't
pub told_over : {T : Type 0} (Tells : T → Line → Outcome → T → Type 0) (scene : Scene) (h : List Timed) (timed : Timed) (desk : Desk) (speaking : Option ℕ) (outcome : Outcome) (old new : Player T)
    → (is_over h ≡ true) × IsQuiet scene.policy h desk → speaking ≡ speaker timed.event → HasTold Tells scene (Unit {0}) outcome (closing_lines scene.policy scene.place h speaking) old new
    → HasTold Tells scene (IsQuiet scene.policy (next_of h timed) desk) outcome (event_lines scene.policy scene.place h timed) old new
told_over Tells scene h timed desk speaking outcome old new over of told =
    let p = scene.policy in
    let place = scene.place in
    told_as Tells scene outcome (closing_lines p place h speaking) (event_lines p place h timed) old new (ap (closing_lines p place h) of ∙ over_event p place h timed over.0)
    (told_so Tells scene outcome (closing_lines p place h speaking) old new (λ _. subst (λ (events : List Timed). IsQuiet p events desk) (sym (next_over h timed over.0)) over.1) told)
