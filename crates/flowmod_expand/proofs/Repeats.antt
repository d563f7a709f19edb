-- Lists of matches without repeats.
use Rattle.std.proofs.Common.{◌≡◌, ◌≢◌, ◌≤◌, inl, inr, Bool, true, false, not, ◌||◌, if◌then◌else◌, List, [], ◌∷◌, ◌++◌, length, filter, All, Any, AllPairs, refl, sym, ◌∙◌, ap, subst, arith}
use Rattle.std.specs.List.{list_any}
use Rattle.std.proofs.lemmas.Bool.{true≢false, not-true, not-false}
use Rattle.std.proofs.lemmas.List.{append-nil}
use Rattle.std.proofs.lemmas.List.Elements.{All-cons, All-head, All-tail, All-filter, All-weaker, filter_passes, filter-append}
use Rattle.std.proofs.lemmas.List.Kept.{AllPairs-cons, AllPairs-filter}
use Rattle.std.proofs.lemmas.List.Sums.{length-filter, count_by-le-length}
use Rattle.std.proofs.lemmas.Map.Views.{any-filter_same}
use Rattle.of10_model.specs.declared.pattern.Pattern.{Pattern}
use Rattle.of10_model.specs.Same.{is_same}
use Rattle.flowmod_expand.specs.Pieces.{without_repeats}
use Rattle.of10_model.proofs.Same.{one-is_same, is_same-one}
use Rattle.flowmod_expand.proofs.Somewhere.{Any-first, Any-later, Any-cases, Any-filter, filter-Any}

-- the tests of the definition and of the code
abbrev pub is_other : Pattern → Pattern → Bool
is_other m other = not (is_same m other)

abbrev pub is_among : List Pattern → Pattern → Bool
is_among found m = list_any (λ earlier. is_same earlier m) found

-- ---- one more match

other_kept : (m x : Pattern) → is_same m x ≡ false → (k : Pattern) → is_same k x ≡ true → is_other m k ≡ true
other_kept m x differ k same = rw (one-is_same k x same, differ) refl

more_among : (m x : Pattern) (ws : List Pattern) → is_among ws x ≡ true → (c : Bool) → is_same m x ≡ c → (c || is_among (filter (is_other m) ws) x) ≡ true
more_among m x ws among true e = refl
more_among m x ws among false e = any-filter_same (λ earlier. is_same earlier x) (is_other m) true (other_kept m x e) ws ∙ among

among_less : (m x : Pattern) (ws : List Pattern) → is_among ws x ≡ false → is_same m x ≡ false → is_among (filter (is_other m) ws) x ≡ false
among_less m x ws none e = any-filter_same (λ earlier. is_same earlier x) (is_other m) true (other_kept m x e) ws ∙ none

after_new : (m x : Pattern) (ws : List Pattern) → is_among ws x ≡ false → (c : Bool) → is_same m x ≡ c
    → m ∷ filter (is_other m) (ws ++ x ∷ []) ≡ (if c || is_among (filter (is_other m) ws) x then m ∷ filter (is_other m) ws else (m ∷ filter (is_other m) ws) ++ x ∷ [])
after_new m x ws none true e =
    let gone : filter (is_other m) (x ∷ []) ≡ [] = rw e refl in
    rw (filter-append (is_other m) ws (x ∷ []), gone, append-nil (filter (is_other m) ws)) refl
after_new m x ws none false e =
    let stays : filter (is_other m) (x ∷ []) ≡ x ∷ [] = rw e refl in
    rw (among_less m x ws none e, filter-append (is_other m) ws (x ∷ []), stays) refl

one_more : (m x : Pattern) (ws : List Pattern) (b : Bool) → is_among ws x ≡ b
    → m ∷ filter (is_other m) (if b then ws else ws ++ x ∷ []) ≡ (if is_same m x || is_among (filter (is_other m) ws) x then m ∷ filter (is_other m) ws else (m ∷ filter (is_other m) ws) ++ x ∷ [])
one_more m x ws true among = rw (more_among m x ws among (is_same m x) refl) refl
one_more m x ws false none = after_new m x ws none (is_same m x) refl

-- a further match is put behind the others unless it is one of them
pub without_repeats_more : (xs : List Pattern) (x : Pattern)
    → without_repeats (xs ++ x ∷ []) ≡ (if is_among (without_repeats xs) x then without_repeats xs else without_repeats xs ++ x ∷ [])
without_repeats_more [] x = refl
without_repeats_more (m ∷ xs) x =
    ap (λ ws. m ∷ filter (is_other m) ws) (without_repeats_more xs x) ∙ one_more m x (without_repeats xs) (is_among (without_repeats xs) x) refl

-- ---- what holds of them

-- they are distinct
pub distinct : (xs : List Pattern) → AllPairs (λ a b. a ≢ b) (without_repeats xs)
distinct [] = λ i j d lt within. absurd (let bound = within in omega arith)
distinct (m ∷ xs) =
    let ws = without_repeats xs in
    let others : All (λ other. m ≢ other) (filter (is_other m) ws) =
    All-weaker (λ other. is_other m other ≡ true) (λ other. m ≢ other) (λ other passes same. true≢false (sym (is_same-one m) ∙ ap (is_same m) same ∙ not-true (is_same m other) passes)) (filter (is_other m) ws) (filter_passes (is_other m) ws) in
    AllPairs-cons (λ a b. a ≢ b) m (filter (is_other m) ws) others (AllPairs-filter (λ a b. a ≢ b) (is_other m) ws (distinct xs))

-- what holds of each match holds of each of them
pub All-without_repeats : (P : Pattern → Type 0) (xs : List Pattern) → All P xs → All P (without_repeats xs)
All-without_repeats P [] all = all
All-without_repeats P (m ∷ xs) all =
    All-cons P m (filter (is_other m) (without_repeats xs)) (All-head P m xs all) (All-filter (is_other m) P (without_repeats xs) (All-without_repeats P xs (All-tail P m xs all)))

-- one of them is one of the matches
pub Any-without_repeats : (P : Pattern → Type 0) (xs : List Pattern) → Any P (without_repeats xs) → Any P xs
Any-without_repeats P [] some = some
Any-without_repeats P (m ∷ xs) some =
    elim (Any-cases P m (filter (is_other m) (without_repeats xs)) some) [
      | inl here ↦ Any-first P m xs here
      | inr later ↦ Any-later P m xs (Any-without_repeats P xs (Any-filter P (is_other m) (without_repeats xs) later))
    ]

-- and the other way round
pub without_repeats-Any : (P : Pattern → Type 0) (xs : List Pattern) → Any P xs → Any P (without_repeats xs)
without_repeats-Any P [] some = some
without_repeats-Any P (m ∷ xs) some =
    let ws = without_repeats xs in
    elim (Any-cases P m xs some) [
      | inl here ↦ Any-first P m (filter (is_other m) ws) here
      | inr later ↦
          elim (filter-Any P (is_other m) ws (without_repeats-Any P xs later)) [
            | inl kept ↦ Any-later P m (filter (is_other m) ws) kept
            | inr dropped ↦ Any-first P m (filter (is_other m) ws) (subst P (sym (one-is_same m dropped.0 (not-false (is_same m dropped.0) dropped.2))) dropped.1)
          ]
    ]

-- there are no more of them
pub without_repeats_length : (xs : List Pattern) → length (without_repeats xs) ≤ length xs
without_repeats_length [] = omega arith
without_repeats_length (m ∷ xs) =
    let rest = without_repeats_length xs in
    let size = length-filter (is_other m) (without_repeats xs) in
    let fewer = count_by-le-length (is_other m) (without_repeats xs) in
    omega arith
