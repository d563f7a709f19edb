-- What players reported, one stretch of lines after another.
use Rattle.std.proofs.Common.{◌≡◌, ◌+◌, ℕ, List, [], ◌∷◌, ◌++◌, refl, ap, sym, ◌∙◌, subst, Result, Ok, Err, arith}
use Rattle.std.specs.Result.{IsErrAnd}
use Rattle.flowspace.specs.Policies.{PolicyView}
use Rattle.recording.specs.Recordings.{Told}
use Rattle.desk_words.specs.declared.event.Event.{Event}
use Rattle.desk_words.specs.declared.event.Timed.{Timed}
use Rattle.desk_words.specs.Recorded.{timed_at}
use Rattle.event_player.specs.Lines.{place_of}
use Rattle.desk_words.specs.Reports.{LinePlace, Line, Saying}
use Rattle.event_player.specs.declared.fault.ReportFault.{ReportFault}
use Rattle.event_player.specs.declared.fault.ReportFault.TheVariants.{Memory}
use Rattle.event_player.specs.declared.player.Player.{Player}
use Rattle.event_player.specs.Telling.{Cue, Outcome, Tell, coming}
use Rattle.event_player.specs.Players.{Scene, IsPlaying, PlaysOn, later, HasTold, TellsAll}
use Rattle.event_player.proofs.Hearing.{heard_none, heard_part_of_first, tell_line, tell_second, tell_on}

-- ---- scenes

pub later_none : (scene : Scene) → later 0 scene ≡ scene
later_none scene = ap (λ (n : ℕ). let s : Scene = record scene { place = record scene.place { number = n } } in s) (let same : scene.place.number + 0 ≡ scene.place.number = omega arith in same)

pub later_both : (first second : ℕ) (scene : Scene) → later second (later first scene) ≡ later (first + second) scene
later_both first second scene = ap (λ (n : ℕ). let s : Scene = record scene { place = record scene.place { number = n } } in s) (let same : scene.place.number + first + second ≡ scene.place.number + (first + second) = omega arith in same)

-- ---- what is reported

-- all that is reported of a recording, under a policy that is the same
pub tells_by : {A T : Type 0} (Tells : T → Cue → Outcome → T → Type 0) (q p : PolicyView) (records : List Told) (result : Result A ReportFault) (old new : Player T) → q ≡ p → TellsAll {A = A} Tells q records result old new → TellsAll {A = A} Tells p records result old new
tells_by {A} Tells q p records result old new same all = subst (λ (policy : PolicyView). TellsAll {A = A} Tells policy records result old new) same all

-- nothing was reported
pub told_nothing : {A T C More : Type 0} (Tells : T → C → Outcome → T → Type 0) (scene : Scene) (value : A) (player : Player T) → IsPlaying scene player → More → HasTold {A = A} Tells scene More (Ok value) [] player player
told_nothing Tells scene value player is more = record { told = refl; at = is; more = more }

-- nothing was reported before memory ran out
pub told_none : {A T C More : Type 0} (Tells : T → C → Outcome → T → Type 0) (scene : Scene) (result : Result A ReportFault) (lines : List C) (player : Player T) → IsErrAnd result (λ e. e ≡ Memory) → HasTold {A = A} Tells scene More result lines player player
told_none {A} Tells scene (Err fault) lines player same = record { told = tell_on {A = A} Tells Memory (Err fault) lines player.teller player.teller same (heard_none Tells lines player.teller); at = tt; more = tt }
told_none Tells scene (Ok value) lines player same = absurd same

-- a fault that is a lack of memory
pub memory_on : {A : Type 0} (fault : ReportFault) (result : Result A ReportFault) → IsErrAnd result (λ e. e ≡ fault) → fault ≡ Memory → IsErrAnd result (λ e. e ≡ Memory)
memory_on fault (Err e) same memory = same ∙ memory
memory_on fault (Ok value) same memory = absurd same

-- one line was reported
pub told_line : {T : Type 0} (Tells : T → Line → Outcome → T → Type 0) (scene : Scene) (place : LinePlace) (saying : Saying) (outcome : Outcome) (old new : Player T) → place ≡ scene.place → Tells old.teller (record { place = place; saying = saying }) outcome new.teller → IsPlaying scene new
    → HasTold Tells scene (Unit {0}) outcome (record { place = scene.place; saying = saying } ∷ []) old new
told_line Tells scene place saying (Ok value) old new same told is = record {
  told = subst (λ (p : LinePlace). let l : Line = record { place = p; saying = saying } in Tell {A = Unit {0}} Tells (Ok value) (l ∷ []) old.teller new.teller) same (tell_line Tells (Ok value) (record { place = place; saying = saying }) old.teller new.teller told);
  at = is;
  more = tt;
}
told_line Tells scene place saying (Err fault) old new same told is = record {
  told = subst (λ (p : LinePlace). let l : Line = record { place = p; saying = saying } in Tell {A = Unit {0}} Tells (Err fault) (l ∷ []) old.teller new.teller) same (tell_line Tells (Err fault) (record { place = place; saying = saying }) old.teller new.teller told);
  at = tt;
  more = tt;
}

told_one : {T : Type 0} (Tells : T → Cue → Outcome → T → Type 0) (scene : Scene) (cue : Cue) (outcome : Outcome) (old new : Player T) → Tells old.teller cue outcome new.teller → IsPlaying scene new → HasTold Tells scene (Unit {0}) outcome (cue ∷ []) old new
told_one Tells scene cue (Ok value) old new told is = record { told = tell_line Tells (Ok value) cue old.teller new.teller told; at = is; more = tt }
told_one Tells scene cue (Err fault) old new told is = record { told = tell_line Tells (Err fault) cue old.teller new.teller told; at = tt; more = tt }

-- an event was reported
pub told_coming : {T : Type 0} (Tells : T → Cue → Outcome → T → Type 0) (scene : Scene) (h : List Timed) (event : Event) (outcome : Outcome) (old new : Player T) → IsPlaying scene old
    → Tells old.teller (coming scene.policy (place_of old.place) h (timed_at old.moment event)) outcome new.teller → IsPlaying scene new
    → HasTold Tells scene (Unit {0}) outcome (coming scene.policy scene.place h (timed_at scene.moment event) ∷ []) old new
told_coming {T} Tells scene h event outcome old new was told is =
    let by_place = subst (λ (place : LinePlace). Tells old.teller (coming scene.policy place h (timed_at old.moment event)) outcome new.teller) was.place told in
    let told_at = subst (λ (moment : ℕ). Tells old.teller (coming scene.policy scene.place h (timed_at moment event)) outcome new.teller) was.moment by_place in
    told_one Tells scene (coming scene.policy scene.place h (timed_at scene.moment event)) outcome old new told_at is

-- after the first of two stretches the second
pub told_second : {A B T C First More : Type 0} (Tells : T → C → Outcome → T → Type 0) (between scene : Scene) (value : B) (result : Result A ReportFault) (first second : List C) (old now new : Player T)
    → HasTold {A = B} Tells between First (Ok value) first old now → HasTold {A = A} Tells scene More result second now new → HasTold {A = A} Tells scene More result (first ++ second) old new
told_second Tells between scene value result first second old now new a b = record { told = tell_second Tells result first second old.teller now.teller new.teller a.told b.told; at = b.at; more = b.more }

-- a fault that came in the first of two stretches is handed on
pub told_first : {A B T C First More : Type 0} (Tells : T → C → Outcome → T → Type 0) (between scene : Scene) (fault : ReportFault) (result : Result A ReportFault) (first second : List C) (old new : Player T)
    → IsErrAnd result (λ e. e ≡ fault) → HasTold {A = B} Tells between First (Err fault) first old new → HasTold {A = A} Tells scene More result (first ++ second) old new
told_first {A} Tells between scene fault (Err e) first second old new same a = record {
  told = tell_on {A = A} Tells fault (Err e) (first ++ second) old.teller new.teller same (heard_part_of_first Tells fault first second old.teller new.teller a.told);
  at = tt;
  more = tt;
}
told_first Tells between scene fault (Ok value) first second old new same a = absurd same

-- a fault is handed on
pub told_on : {A B T C First More : Type 0} (Tells : T → C → Outcome → T → Type 0) (between scene : Scene) (fault : ReportFault) (result : Result A ReportFault) (lines : List C) (old new : Player T)
    → IsErrAnd result (λ e. e ≡ fault) → HasTold {A = B} Tells between First (Err fault) lines old new → HasTold {A = A} Tells scene More result lines old new
told_on {A} Tells between scene fault (Err e) lines old new same a = record { told = tell_on {A = A} Tells fault (Err e) lines old.teller new.teller same a.told; at = tt; more = tt }
told_on Tells between scene fault (Ok value) lines old new same a = absurd same

-- the same lines in other words
pub told_as : {A T C More : Type 0} (Tells : T → C → Outcome → T → Type 0) (scene : Scene) (result : Result A ReportFault) (lines others : List C) (old new : Player T) → lines ≡ others → HasTold {A = A} Tells scene More result lines old new → HasTold {A = A} Tells scene More result others old new
told_as {A} {T} {C} {More} Tells scene result lines others old new same a = subst (λ (l : List C). HasTold {A = A} Tells scene More result l old new) same a

-- what comes after it changes nothing of what was reported
pub told_still : {A T C More : Type 0} (Tells : T → C → Outcome → T → Type 0) (scene : Scene) (result : Result A ReportFault) (lines : List C) (old mid new : Player T) → PlaysOn mid new → HasTold {A = A} Tells scene More result lines old mid → HasTold {A = A} Tells scene More result lines old new
told_still {A} {T} {C} {More} Tells scene (Ok value) lines old mid new on a = record { told = subst (λ (teller : T). Tell {A = A} Tells (Ok value) lines old.teller teller) (sym on.teller) a.told; at = on.scene scene a.at; more = a.more }
told_still {A} {T} {C} {More} Tells scene (Err fault) lines old mid new on a = record { told = subst (λ (teller : T). Tell {A = A} Tells (Err fault) lines old.teller teller) (sym on.teller) a.told; at = tt; more = tt }

-- something else follows where all was reported
pub told_so : {A T C First More : Type 0} (Tells : T → C → Outcome → T → Type 0) (scene : Scene) (result : Result A ReportFault) (lines : List C) (old new : Player T) → (First → More) → HasTold {A = A} Tells scene First result lines old new → HasTold {A = A} Tells scene More result lines old new
told_so Tells scene (Ok value) lines old new so a = record { told = a.told; at = a.at; more = so a.more }
told_so Tells scene (Err fault) lines old new so a = record { told = a.told; at = tt; more = tt }
