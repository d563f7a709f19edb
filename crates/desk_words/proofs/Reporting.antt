-- All that happened in a recording, record by record; its lines, and those of an event for the slices.
use Rattle.std.proofs.Common.{◌≡◌, ℕ, suc, Bool, true, false, ◌+◌, if◌then◌else◌, List, [], ◌∷◌, ◌++◌, length, map, take, reverse, refl, ap, ap₂, sym, ◌∙◌, append_assoc, append-nil, slice_get, Option, Some, None, arith}
use Rattle.std.specs.List.{flat_map, enumerate_from, range_with_len}
use Rattle.std.proofs.lemmas.List.{length-map}
use Rattle.std.proofs.lemmas.List.FromFn.{length-enumerate_from}
use Rattle.std.proofs.lemmas.Grind.{flat_map-append}
use Rattle.std.proofs.Math.Seq.{take-append_seam}
use Rattle.flowspace.specs.declared.slices.Slice.{Slice}
use Rattle.flowspace.specs.Policies.{PolicyView}
use Rattle.recording.specs.Recordings.{Told}
use Rattle.desk_words.specs.declared.event.Timed.{Timed}
use Rattle.desk_words.specs.Sent.{lane_by}
use Rattle.desk_words.specs.Verdicts.{is_over}
use Rattle.desk_words.specs.Recorded.{next_of, next_after, Happened, each_after, happened_in, all_happened}
use Rattle.desk_words.specs.Reports.{sent_to_slice, LinePlace, Line, lane_lines, slice_lines, lines_by_slot, name_at, close_lines, down_lines, lines_at, lines_from}
use Rattle.desk_words.specs.Laws.{ComeBeforeLater, ShowsEachSlice}
use Rattle.recording.proofs.Refused.{newest_first}

-- ---- numbered lists

flat_map_same : {X A : Type 0} (f g : X → List A) → ((x : X) → f x ≡ g x) → (xs : List X) → flat_map f xs ≡ flat_map g xs
flat_map_same f g same [] = refl
flat_map_same f g same (x ∷ xs) = ap₂ (λ (a b : List _). a ++ b) (same x) (flat_map_same f g same xs)

one_more : (n : ℕ) → suc n + 1 ≡ suc (n + 1)
one_more n = omega arith

flat_map_later : {X A : Type 0} (f : ℕ × X → List A) (n : ℕ) (xs : List X) → flat_map f (enumerate_from (suc n) xs) ≡ flat_map (λ one. f (suc one.0, one.1)) (enumerate_from n xs)
flat_map_later f n [] = refl
flat_map_later f n (x ∷ xs) = ap (λ (k : ℕ). f (suc n, x) ++ flat_map f (enumerate_from k xs)) (one_more n) ∙ ap (λ rest. f (suc n, x) ++ rest) (flat_map_later f (n + 1) xs)

map_later : {X Y : Type 0} (f : ℕ × X → Y) (n : ℕ) (xs : List X) → map f (enumerate_from (suc n) xs) ≡ map (λ one. f (suc one.0, one.1)) (enumerate_from n xs)
map_later f n [] = refl
map_later f n (x ∷ xs) = ap (λ (k : ℕ). f (suc n, x) ∷ map f (enumerate_from k xs)) (one_more n) ∙ ap (λ rest. f (suc n, x) ∷ rest) (map_later f (n + 1) xs)

pub enumerate_both : {X : Type 0} (n : ℕ) (xs ys : List X) → enumerate_from n (xs ++ ys) ≡ enumerate_from n xs ++ enumerate_from (n + length xs) ys
enumerate_both n [] ys = ap (λ (k : ℕ). enumerate_from k ys) (let none : n ≡ n + 0 = omega arith in none)
enumerate_both n (x ∷ xs) ys =
    ap (λ rest. (n, x) ∷ rest) (enumerate_both (n + 1) xs ys)
    ∙ ap (λ (k : ℕ). (n, x) ∷ (enumerate_from (n + 1) xs ++ enumerate_from k ys)) (let k : n + 1 + length xs ≡ n + length (x ∷ xs) = omega arith in k)

-- ---- the events of a record

pub each_next : (switch : ℕ) (h : List Timed) (timed : Timed) (later : List Timed)
    → each_after switch h (timed ∷ later) ≡ record { switch = switch; history = h; timed = timed } ∷ each_after switch (next_of h timed) later
each_next switch h timed later =
    ap (λ (rest : List Happened). record { switch = switch; history = h; timed = timed } ∷ rest)
    (map_later (λ one. record { switch = switch; history = next_after h (take one.0 (timed ∷ later)); timed = one.1 }) 0 later)

-- events and those behind them
pub each_both : (switch : ℕ) (h first second : List Timed) → each_after switch h (first ++ second) ≡ each_after switch h first ++ each_after switch (next_after h first) second
each_both switch h [] second = refl
each_both switch h (timed ∷ first) second =
    each_next switch h timed (first ++ second)
    ∙ ap (λ (rest : List Happened). record { switch = switch; history = h; timed = timed } ∷ rest) (each_both switch (next_of h timed) first second)
    ∙ ap (λ (front : List Happened). front ++ each_after switch (next_after (next_of h timed) first) second) (sym (each_next switch h timed first))

pub count_of_each : (switch : ℕ) (h own : List Timed) → length (each_after switch h own) ≡ length own
count_of_each switch h own = length-map (enumerate_from 0 own) _ ∙ length-enumerate_from 0 own

-- ---- the events of all records

-- the events of records after others, newest first
abbrev pub happened_after : PolicyView → List Told → List Told → List Happened
happened_after policy before later = flat_map (λ one. happened_in policy (reverse (take one.0 later) ++ before) one.1) (enumerate_from 0 later)

pub next_happened : (policy : PolicyView) (before : List Told) (r : Told) (later : List Told)
    → happened_after policy before (r ∷ later) ≡ happened_in policy before r ++ happened_after policy (r ∷ before) later
next_happened policy before r later =
    ap (λ rest. happened_in policy before r ++ rest)
    (flat_map_later (λ one. happened_in policy (reverse (take one.0 (r ∷ later)) ++ before) one.1) 0 later
    ∙ flat_map_same _ _ (λ one. ap (λ (front : List Told). happened_in policy front one.1) (newest_first r (take one.0 later) before)) (enumerate_from 0 later))

happened_both : (policy : PolicyView) (before earlier later : List Told)
    → happened_after policy before (earlier ++ later) ≡ happened_after policy before earlier ++ happened_after policy (reverse earlier ++ before) later
happened_both policy before [] later = refl
happened_both policy before (r ∷ rest) later =
    let own = happened_in policy before r in
    next_happened policy before r (rest ++ later)
    ∙ ap (λ events. own ++ events) (happened_both policy (r ∷ before) rest later)
    ∙ sym (append_assoc own (happened_after policy (r ∷ before) rest) (happened_after policy (reverse rest ++ r ∷ before) later))
    ∙ ap₂ (λ (first second : List Happened). first ++ second)
    (sym (next_happened policy before r rest))
    (ap (λ (front : List Told). happened_after policy front later) (sym (newest_first r rest before)))

pub from_zero : (n : ℕ) → 0 + n ≡ n
from_zero n = omega arith

pub from_none : (policy : PolicyView) (records : List Told) → happened_after policy [] records ≡ all_happened policy records
unfolding all_happened
from_none policy records = flat_map_same _ _ (λ one. ap (λ (front : List Told). happened_in policy front one.1) (append-nil (reverse (take one.0 records)))) (enumerate_from 0 records)

pub come_before_later : (policy : PolicyView) (earlier later : List Told) → ComeBeforeLater policy earlier later
come_before_later policy earlier later =
    let events = all_happened policy earlier in
    let behind = happened_after policy (reverse earlier ++ []) later in
    let both : all_happened policy (earlier ++ later) ≡ events ++ behind =
    sym (from_none policy (earlier ++ later)) ∙ happened_both policy [] earlier later ∙ ap (λ first. first ++ behind) (from_none policy earlier) in
    ap (take (length events)) both ∙ take-append_seam events behind

-- ---- lines

-- the lines of events and of those behind them
pub lines_from_both : (policy : PolicyView) (number : ℕ) (first second : List Happened) → lines_from policy number (first ++ second) ≡ lines_from policy number first ++ lines_from policy (number + length first) second
unfolding lines_from
lines_from_both policy number first second =
    ap (flat_map (lines_at policy)) (enumerate_both number first second) ∙ flat_map-append (lines_at policy) (enumerate_from number first) (enumerate_from (number + length first) second)

pub at_once : (n : ℕ) → n ≡ n + 0
at_once n = omega arith

one_further : (n k : ℕ) → n + 1 + k ≡ n + suc k
one_further n k = omega arith

-- the slices from a slot on, where the slices of the policy have these there
slices_shown : (policy : PolicyView) (place : LinePlace) (messages : ℕ → List (List ℕ)) (slot : ℕ) (slices : List Slice)
    → ((k : ℕ) → slice_get policy.slices (slot + k) ≡ slice_get slices k)
    → lines_by_slot place messages slot slices ≡ flat_map (λ s. slice_lines place s (name_at policy.slices s) (messages s)) (range_with_len slot (length slices))
slices_shown policy place messages slot [] at = refl
slices_shown policy place messages slot (slice ∷ others) at =
    ap₂ (λ (name : List ℕ) (rest : List Line). slice_lines place slot name (messages slot) ++ rest)
    (sym (ap (λ (found : Option Slice). elim found [ None ↦ [] | Some one ↦ one.name ]) (ap (slice_get policy.slices) (at_once slot) ∙ at 0)))
    (slices_shown policy place messages (slot + 1) others (λ k. ap (slice_get policy.slices) (one_further slot k) ∙ at (suc k)))

lane_unless : (place : LinePlace) (over : Bool) (messages : List (List ℕ)) → lane_lines place (if over then [] else messages) ≡ (if over then [] else lane_lines place messages)
lane_unless place true messages = refl
lane_unless place false messages = refl

pub each_slice : (policy : PolicyView) (place : LinePlace) (h : List Timed) (timed : Timed) → ShowsEachSlice policy place h timed
each_slice policy place h timed =
    ap₂ (λ (lane slices : List Line). lane ++ slices ++ close_lines policy place (next_of h timed) timed.event ++ (if is_over h then [] else down_lines place h timed))
    (lane_unless place (is_over h) (lane_by policy h timed))
    (slices_shown policy place (λ s. sent_to_slice policy s h timed) 0 policy.slices (λ k. ap (slice_get policy.slices) (from_zero k)))
