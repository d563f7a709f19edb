-- The lines for the slices, one slot after another.
use Rattle.std.proofs.Common.{◌≡◌, ◌+◌, ℕ, ltb, false, if◌then◌else◌, List, [], ◌++◌, drop, length, refl, sym, ap, ◌∙◌, append_assoc, Some, slice_get, Result, Ok, Err, arith}
use Rattle.std.proofs.lemmas.List.{append-nil, drop_more, drop_all}
use Rattle.std.proofs.lemmas.Option.{slice_get_within, get_or_from_slice_get}
use Rattle.std.proofs.lemmas.Bool.Decides.{nat_tests}
use Rattle.flowspace.specs.declared.slices.Slice.{Slice}
use Rattle.desk_words.specs.Reports.{LinePlace, Line, slice_lines, lines_by_slot}
use Rattle.std.specs.Result.{IsErrAnd}
use Rattle.event_player.specs.declared.fault.ReportFault.{ReportFault}
use Rattle.event_player.specs.declared.player.Player.{Player}
use Rattle.event_player.specs.Telling.{Outcome}
use Rattle.event_player.specs.Players.{Scene, HasTold}
use Rattle.event_player.proofs.Players.{told_second, told_first, told_as, told_so}

-- for the slices from a slot on as before, for those below it nothing
abbrev pub from_slot : ℕ → (ℕ → List (List ℕ)) → ℕ → List (List ℕ)
from_slot slot slices other = if ltb other slot then [] else slices other

not_below : (at : ℕ) → ltb at at ≡ false
not_below at = grind (arith, nat_tests)

none_below : (other : ℕ) → ltb other 0 ≡ false
none_below other = grind (arith, nat_tests)

pub from_first : (slices : ℕ → List (List ℕ)) (other : ℕ) → slices other ≡ from_slot 0 slices other
from_first slices other = rw (none_below other) refl

own_from : (at : ℕ) (slices : ℕ → List (List ℕ)) → from_slot at slices at ≡ slices at
own_from at slices = rw (not_below at) refl

split : (place : LinePlace) (slices : ℕ → List (List ℕ)) (all : List Slice) (at : ℕ) (slice : Slice) → slice_get all at ≡ Some slice
    → lines_by_slot place slices at (drop at all) ≡ slice_lines place at slice.name (slices at) ++ lines_by_slot place slices (at + 1) (drop (at + 1) all)
split place slices all at slice is =
    ap (lines_by_slot place slices at) (drop_more all at slice (slice_get_within all at slice is))
    ∙ ap (λ (first : Slice). slice_lines place at first.name (slices at) ++ lines_by_slot place slices (at + 1) (drop (at + 1) all)) (get_or_from_slice_get all at slice slice is)

-- lines so far, those of a slot, and those behind it
next_whole : (place : LinePlace) (slices : ℕ → List (List ℕ)) (all : List Slice) (at : ℕ) (slice : Slice) (name : List ℕ) (done whole : List Line) → slice_get all at ≡ Some slice → name ≡ slice.name → done ++ lines_by_slot place slices at (drop at all) ≡ whole
    → done ++ (slice_lines place at name (from_slot at slices at) ++ lines_by_slot place slices (at + 1) (drop (at + 1) all)) ≡ whole
next_whole place slices all at slice name done whole is named rest =
    let others = lines_by_slot place slices (at + 1) (drop (at + 1) all) in
    ap (λ (lines : List Line). done ++ (lines ++ others)) (ap (λ (n : List ℕ). slice_lines place at n (from_slot at slices at)) named ∙ ap (slice_lines place at slice.name) (own_from at slices))
    ∙ ap (λ (lines : List Line). done ++ lines) (sym (split place slices all at slice is)) ∙ rest

-- the lines of one slot more
pub slot_more : {T More : Type 0} (Tells : T → Line → Outcome → T → Type 0) (scene : Scene) (slices : ℕ → List (List ℕ)) (all : List Slice) (at : ℕ) (slice : Slice) (name : List ℕ) (done whole : List Line) (before now later : Player T) (value : Unit {0})
    → slice_get all at ≡ Some slice → name ≡ slice.name → HasTold {A = Unit {0}} Tells scene (Unit {0}) (Ok tt) done before now → done ++ lines_by_slot scene.place slices at (drop at all) ≡ whole
    → HasTold {A = Unit {0}} Tells scene More (Ok value) (slice_lines scene.place at name (from_slot at slices at)) now later
    → (more : List Line) × HasTold {A = Unit {0}} Tells scene (Unit {0}) (Ok tt) more before later × (more ++ lines_by_slot scene.place slices (at + 1) (drop (at + 1) all) ≡ whole)
slot_more Tells scene slices all at slice name done whole before now later value is named written rest told =
    let own = slice_lines scene.place at name (from_slot at slices at) in (
      done ++ own,
      told_second Tells scene scene tt (Ok tt) done own before now later written (told_so Tells scene (Ok tt) own now later (λ _. tt) told),
      append_assoc done own (lines_by_slot scene.place slices (at + 1) (drop (at + 1) all)) ∙ next_whole scene.place slices all at slice name done whole is named rest,
    )

-- a piece of the lines of the next slot
pub slot_part : {A T First More : Type 0} (Tells : T → Line → Outcome → T → Type 0) (scene : Scene) (slices : ℕ → List (List ℕ)) (all : List Slice) (at : ℕ) (slice : Slice) (name : List ℕ) (done whole : List Line) (before now later : Player T) (fault : ReportFault) (result : Result A ReportFault)
    → slice_get all at ≡ Some slice → name ≡ slice.name → HasTold {A = Unit {0}} Tells scene (Unit {0}) (Ok tt) done before now → done ++ lines_by_slot scene.place slices at (drop at all) ≡ whole
    → IsErrAnd result (λ e. e ≡ fault) → HasTold {A = Unit {0}} Tells scene First (Err fault) (slice_lines scene.place at name (from_slot at slices at)) now later → HasTold {A = A} Tells scene More result whole before later
slot_part {A} {T} {First} {More} Tells scene slices all at slice name done whole before now later fault result is named written rest same part =
    let own = slice_lines scene.place at name (from_slot at slices at) in
    let others = lines_by_slot scene.place slices (at + 1) (drop (at + 1) all) in
    told_as Tells scene result (done ++ (own ++ others)) whole before later (next_whole scene.place slices all at slice name done whole is named rest)
    (told_second Tells scene scene tt result done (own ++ others) before now later written (told_first {More = More} Tells scene scene fault result own others now later same part))

-- the lines of all slots
pub slots_done : {T More : Type 0} (Tells : T → Line → Outcome → T → Type 0) (scene : Scene) (slices : ℕ → List (List ℕ)) (all : List Slice) (at : ℕ) (done whole : List Line) (before now : Player T) (value : Unit {0})
    → at ≡ length all → HasTold {A = Unit {0}} Tells scene (Unit {0}) (Ok tt) done before now → done ++ lines_by_slot scene.place slices at (drop at all) ≡ whole → More → HasTold {A = Unit {0}} Tells scene More (Ok value) whole before now
slots_done Tells scene slices all at done whole before now value end written rest more =
    told_as Tells scene (Ok value) done whole before now (sym (append-nil done) ∙ ap (λ (left : List Slice). done ++ lines_by_slot scene.place slices at left) (sym (drop_all at all (omega (arith, end)))) ∙ rest)
    (told_so Tells scene (Ok value) done before now (λ _. more) written)
