-- Lists that have the same pairs answer alike.
use Rattle.std.proofs.Common.{ℕ, ◌≡◌, ◌+◌, ◌==◌, ◌&&◌, not, List, [], ◌∷◌, ◌++◌, length, get_or, map, ltb, Bool, Some, None, refl, sym, ap, ◌∙◌, arith, true, false, if◌then◌else◌, inl, inr}
use Rattle.std.specs.Prelude.{filter, find}
use Rattle.std.specs.List.{list_any}
use Rattle.std.specs.List.Sorted.{IsPermutation}
use Rattle.std.proofs.lemmas.Bool.{cases_Bool, both_ways, or_parts, or_right, and_parts, and_from, eqb-true, eqb-false, eq-eqb, or_left, false≢true}
use Rattle.std.specs.Cmp.{booleans_Decides}
use Rattle.std.proofs.Math.Bool.{beq}
use Rattle.std.proofs.Common.{length-append}
use Rattle.std.proofs.lemmas.Bool.{lt-ltb}
use Rattle.std.proofs.lemmas.List.Elements.{filter-append, filter_agree}
use Rattle.std.proofs.lemmas.List.Sums.{length-filter}
use Rattle.std.proofs.lemmas.List.{get_or_default}
use Rattle.std.proofs.lemmas.List.Folds.{Any-from_list_any}
use Rattle.std.proofs.lemmas.List.Sorted.{sum_by-IsPermutation}
use Rattle.of10_model.specs.declared.pattern.Pattern.{Pattern}
use Rattle.of10_model.specs.Inclusion.{includes_of}
use Rattle.of10_model.specs.Meet.{is_disjoint}
use Rattle.flowspace.proofs.Ranking.{filter-both}
use Rattle.flow_book.specs.declared.booked.Booked.{Booked}
use Rattle.flow_book.specs.Order.{ArePairsInOrder}
use Rattle.flow_book.specs.Books.{BookCall, Book, BookStands, is_pair, is_newcomer, newcomers_in, fits_in, overlaps_in, book, booking, HaveSame}
use Rattle.of10_model.specs.Same.{is_same}
use Rattle.of10_model.proofs.Same.{one-is_same, is_same-one}
use Rattle.flow_book.proofs.SamePairs.{Equal-pair}
use Rattle.flow_book.proofs.Places.{PassesAt, find_one, no_other}

module _ {X : Type 0} where
  -- how many elements pass
  abbrev pub passing : (X → Bool) → List X → ℕ
  passing test xs = length (filter test xs)

  pub passing-append : (test : X → Bool) (xs ys : List X) → passing test (xs ++ ys) ≡ passing test xs + passing test ys
  passing-append test xs ys = ap length (filter-append test xs ys) ∙ length-append (filter test xs) (filter test ys)

  pub passing-filter : (test keep : X → Bool) (xs : List X) → passing test (filter keep xs) ≡ passing (λ x. keep x && test x) xs
  passing-filter test keep xs = ap length (filter-both test keep xs)

  pub filter_all : (xs : List X) → filter (λ x. true) xs ≡ xs
  filter_all [] = refl
  filter_all (x ∷ xs) = ap (λ l. x ∷ l) (filter_all xs)

  pub any_is_passing : (test : X → Bool) (xs : List X) → list_any test xs ≡ ltb 0 (passing test xs)
  any_is_passing test [] = refl
  any_is_passing test (x ∷ xs) = elim (cases_Bool (test x)) [
    | inl passes ↦ rw passes (sym (lt-ltb 0 (length (x ∷ filter test xs)) (omega arith)))
    | inr fails ↦ rw (fails, any_is_passing test xs) refl
  ]

  pub any_alike : (test : X → Bool) (xs ys : List X) → passing test xs ≡ passing test ys → list_any test xs ≡ list_any test ys
  any_alike test xs ys e = any_is_passing test xs ∙ ap (ltb 0) e ∙ sym (any_is_passing test ys)

  pub any_agree : (p q : X → Bool) → ((x : X) → p x ≡ q x) → (xs : List X) → list_any p xs ≡ list_any q xs
  any_agree p q e [] = refl
  any_agree p q e (x ∷ xs) = rw (e x, any_agree p q e xs) refl

  pub any_weaker : (p q : X → Bool) → ((x : X) → p x ≡ true → q x ≡ true) → (xs : List X) → list_any p xs ≡ true → list_any q xs ≡ true
  any_weaker p q e [] h = cc
  any_weaker p q e (x ∷ xs) h = elim (cases_Bool (p x)) [
    | inl passes ↦ rw (e x passes) refl
    | inr fails ↦ (let rest : list_any q xs ≡ true = any_weaker p q e xs (rw fails at h) in or_right (q x) (list_any q xs) rest)
  ]

  pub any-map : (test : X → Bool) (f : X → X) → ((x : X) → test (f x) ≡ test x) → (xs : List X) → list_any test (map f xs) ≡ list_any test xs
  any-map test f e [] = refl
  any-map test f e (x ∷ xs) = rw (e x, any-map test f e xs) refl

  pub find_no : (test : X → Bool) (xs : List X) → list_any test xs ≡ false → find test xs ≡ None
  find_no test [] h = refl
  find_no test (x ∷ xs) h =
      let p = or_parts (test x) (list_any test xs) h in rw p.0 (find_no test xs p.1)

pub passing-map : {X Y : Type 0} (test : X → Bool) (f : Y → X) (ys : List Y) → length (filter test (map f ys)) ≡ length (filter (λ y. test (f y)) ys)
passing-map test f [] = refl
passing-map test f (y ∷ ys) = elim (cases_Bool (test (f y))) [
  | inl passes ↦ rw passes (let rest = passing-map test f ys in omega (arith, rest))
  | inr fails ↦ rw fails (passing-map test f ys)
]

pub HaveSame-IsPermutation : (xs ys : List Booked) → IsPermutation xs ys → HaveSame xs ys
HaveSame-IsPermutation xs ys h test = length-filter test xs ∙ sym (sum_by-IsPermutation (λ b. if test b then 1 else 0) xs ys h) ∙ sym (length-filter test ys)

module _ (xs ys : List Booked) (same : HaveSame xs ys) where
  pub length_same : length xs ≡ length ys
  length_same = ap length (sym (filter_all xs)) ∙ same (λ b. true) ∙ ap length (filter_all ys)

  pub newcomer_same : (command p : ℕ) (m : Pattern) → is_newcomer command p xs m ≡ is_newcomer command p ys m
  newcomer_same command p m =
      rw (any_alike (is_pair m p) xs ys (same (is_pair m p)), any_alike (λ b. includes_of m b.pattern) xs ys (same (λ b. includes_of m b.pattern))) refl

  pub newcomers_same : (command : ℕ) (ms : List Pattern) (p : ℕ) → newcomers_in command ms p xs ≡ newcomers_in command ms p ys
  newcomers_same command ms p =
      sym (length-filter (is_newcomer command p xs) ms) ∙ ap length (filter_agree (is_newcomer command p xs) (is_newcomer command p ys) (newcomer_same command p) ms) ∙ length-filter (is_newcomer command p ys) ms

  pub fits_same : (command : ℕ) (ms : List Pattern) (p quota : ℕ) → fits_in command ms p quota xs ≡ fits_in command ms p quota ys
  fits_same command ms p quota = rw (length_same, newcomers_same command ms p) refl

  pub overlaps_same : (ms : List Pattern) (p : ℕ) → overlaps_in ms p xs ≡ overlaps_in ms p ys
  overlaps_same ms p =
      any_agree (λ piece. list_any (λ b. b.priority == p && not (is_disjoint b.pattern piece)) xs) (λ piece. list_any (λ b. b.priority == p && not (is_disjoint b.pattern piece)) ys)
      (λ piece. any_alike (λ b. b.priority == p && not (is_disjoint b.pattern piece)) xs ys (same (λ b. b.priority == p && not (is_disjoint b.pattern piece)))) ms

-- ---- the pair that is found

abbrev pub same_booked : Booked → Booked → Bool
same_booked a b = is_same a.pattern b.pattern && a.priority == b.priority && beq a.asked b.asked && a.number == b.number

pub same_from : (a b : Booked) → same_booked a b ≡ true → a ≡ b
same_from a b e =
    let three = and_parts (is_same a.pattern b.pattern && a.priority == b.priority && beq a.asked b.asked) (a.number == b.number) e in
    let two = and_parts (is_same a.pattern b.pattern && a.priority == b.priority) (beq a.asked b.asked) three.0 in
    let one = and_parts (is_same a.pattern b.pattern) (a.priority == b.priority) two.0 in
    let pattern = one-is_same a.pattern b.pattern one.0 in
    let priority = eqb-true a.priority b.priority one.1 in
    let asked = (booleans_Decides a.asked b.asked).0 two.1 in
    let number = eqb-true a.number b.number three.1 in
    λ i. record { pattern = pattern i; priority = priority i; asked = asked i; number = number i }

pub itself : (a : Booked) → same_booked a a ≡ true
itself a =
    and_from (is_same a.pattern a.pattern && a.priority == a.priority && beq a.asked a.asked) (a.number == a.number)
    (and_from (is_same a.pattern a.pattern && a.priority == a.priority) (beq a.asked a.asked)
    (and_from (is_same a.pattern a.pattern) (a.priority == a.priority) (is_same-one a.pattern) (eq-eqb a.priority a.priority refl))
    ((booleans_Decides a.asked a.asked).1 refl))
    (eq-eqb a.number a.number refl)

-- what is found passes, and is among the elements
pub record Found (test : Booked → Bool) (xs : List Booked) : Type 0 where
  pub value : Booked
  pub is : find test xs ≡ Some value
  pub passes : test value ≡ true
  pub within : list_any (same_booked value) xs ≡ true

pub found : (test : Booked → Bool) (xs : List Booked) → list_any test xs ≡ true → Found test xs
found test [] h = absurd (false≢true h)
found test (x ∷ xs) h = elim (cases_Bool (test x)) [
  | inl passes ↦ record { value = x; is = rw passes refl; passes = passes; within = or_left (same_booked x x) (list_any (same_booked x) xs) (itself x) }
  | inr fails ↦
      let rest = found test xs (rw fails at h) in
      record { value = rest.value; is = rw fails rest.is; passes = rest.passes; within = or_right (same_booked rest.value x) (list_any (same_booked rest.value) xs) rest.within }
]

-- in a book in order a pair is found once, so lists with the same pairs find the same
pub find_same : (xs ys : List Booked) → HaveSame xs ys → ArePairsInOrder ys → (m : Pattern) (p : ℕ) → find (is_pair m p) xs ≡ find (is_pair m p) ys
find_same xs ys same o m p = elim (cases_Bool (list_any (is_pair m p) ys)) [
  | inr none ↦ find_no (is_pair m p) xs (any_alike (is_pair m p) xs ys (same (is_pair m p)) ∙ none) ∙ sym (find_no (is_pair m p) ys none)
  | inl some ↦
      let at = Any-from_list_any (is_pair m p) ys some in
      let k = at.0 in
      let x = at.1 in
      let here : (d : Booked) → get_or ys k d ≡ x = λ d. get_or_default ys k d x at.2 ∙ at.3 in
      let passes : PassesAt (is_pair m p) ys k = record {
        in_range = at.2;
        here = λ d. rw (here d) at.4;
        elsewhere = no_other ys k m p o.ascending at.2 (λ d. Equal-pair m p (get_or ys k d) (rw (here d) at.4));
      } in
      let f = found (is_pair m p) xs (any_alike (is_pair m p) xs ys (same (is_pair m p)) ∙ some) in
      let there = Any-from_list_any (same_booked f.value) ys (sym (any_alike (same_booked f.value) xs ys (same (same_booked f.value))) ∙ f.within) in
      let moved : f.value ≡ there.1 = same_from f.value there.1 there.4 in
      let one : there.1 ≡ x = elim (cases_Bool (there.0 == k)) [
        | inl equal ↦ sym there.3 ∙ ap (λ n. get_or ys n there.1) (eqb-true there.0 k equal) ∙ here there.1
        | inr other ↦ absurd (both_ways (is_pair m p there.1)
            (rw there.3 at (no_other ys k m p o.ascending at.2 (λ d. Equal-pair m p (get_or ys k d) (rw (here d) at.4)) there.0 there.1 there.2 (eqb-false there.0 k other)))
            (rw moved at f.passes))
      ] in
      f.is ∙ ap Some (moved ∙ one) ∙ sym (find_one (is_pair m p) ys k x (sym (here x)) passes)
]

-- so a book in order keeps of a pair what its calls say
pub booking_kept : (calls : List BookCall) (kept : Book) → BookStands calls kept → ArePairsInOrder kept.booked → (m : Pattern) (p : ℕ) → find (is_pair m p) kept.booked ≡ booking m p calls
booking_kept calls kept s o m p = sym (find_same (book calls) kept.booked s.same o m p)
