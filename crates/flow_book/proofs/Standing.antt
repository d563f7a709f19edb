-- The book stands for one call more.
use Rattle.std.proofs.Common.{ℕ, ◌≡◌, ◌≢◌, ◌+◌, ◌<◌, ◌==◌, ◌&&◌, ◌||◌, not, List, [], ◌∷◌, ◌++◌, length, get_or, map, Bool, refl, sym, ap, subst, ◌∙◌, arith, true, false, if◌then◌else◌, inl, inr}
use Rattle.std.specs.Prelude.{filter, find, All, AllPairs}
use Rattle.std.specs.List.{list_any}
use Rattle.std.specs.List.Sorted.{IsPermutation, IsStrictlySortedBy}
use Rattle.std.proofs.lemmas.Bool.{cases_Bool}
use Rattle.std.proofs.lemmas.List.{get_or-map, length-map}
use Rattle.std.proofs.lemmas.List.Elements.{filter_agree, filter_passes, All-head, All-tail, All-cons, All-nil}
use Rattle.std.proofs.lemmas.List.Kept.{AllPairs-filter}
use Rattle.of10_model.specs.declared.pattern.Pattern.{Pattern}
use Rattle.of10_model.specs.Normal.{IsNormal}
use Rattle.of10_model.specs.Inclusion.{includes_of}
use Rattle.of10_model.proofs.Including.{includes-Includes}
use Rattle.flow_book.specs.declared.booked.Booked.{Booked}
use Rattle.flow_book.specs.Order.{ArePairsInOrder}
use Rattle.flow_book.specs.Books.{BookCall, Added, Removed, Failed, is_pair, is_booked, includes_booked, is_newcomer, first_booked, booked_again, is_first, without, book, Book, BookStands, HaveSame}
use Rattle.flow_book.specs.Adding.{AreNew}
use Rattle.of10_model.specs.Same.{is_same}
use Rattle.flow_book.proofs.SamePairs.{pair_parts, other_match}
use Rattle.flow_book.proofs.Steps.{fresh_of}
use Rattle.flow_book.proofs.Counts.{passing, passing-append, passing-filter, passing-map, any-map, any_weaker, newcomer_same, find_same, HaveSame-IsPermutation}

pub without_same : (xs ys : List Booked) (m : Pattern) (p : ℕ) → HaveSame xs ys → HaveSame (without m p xs) (without m p ys)
without_same xs ys m p same test =
    passing-filter test (λ b. not (is_pair m p b)) xs ∙ same (λ b. not (is_pair m p b) && test b) ∙ sym (passing-filter test (λ b. not (is_pair m p b)) ys)

pub stands-removed : (calls : List BookCall) (xs : List Booked) (after : Book) (m : Pattern) (p : ℕ) → HaveSame (book calls) xs → after.booked ≡ without m p xs → BookStands (Removed m p ∷ calls) after
unfolding book
stands-removed calls xs after m p same e = record { same = subst (HaveSame (without m p (book calls))) (sym e) (without_same (book calls) xs m p same) }

pub stands-failed : (calls : List BookCall) (xs : List Booked) (after : Book) (number : ℕ) (m : Pattern) (p : ℕ) → HaveSame (book calls) xs → ArePairsInOrder xs
    → after.booked ≡ (if is_first number (find (is_pair m p) xs) then without m p xs else xs) → BookStands (Failed number m p ∷ calls) after
unfolding book
stands-failed calls xs after number m p same o e =
    let first = ap (is_first number) (find_same (book calls) xs same o m p) in
    elim (cases_Bool (is_first number (find (is_pair m p) xs))) [
      | inl is ↦ record { same = rw (first, e, is) (without_same (book calls) xs m p same) }
      | inr isnt ↦ record { same = rw (first, e, isnt) same }
    ]

pub stands-added : (command : ℕ) (ms : List Pattern) (p : ℕ) (asked : Bool) (number : ℕ) (calls : List BookCall) (xs : List Booked) (after : Book) → HaveSame (book calls) xs
    → IsPermutation (fresh_of command ms p asked number xs ++ map (booked_again command ms p asked) xs) after.booked → BookStands (Added command ms p asked number ∷ calls) after
unfolding book
stands-added command ms p asked number calls xs after same h = record {
  same = λ test.
      let earlier = book calls in
      let again = booked_again command ms p asked in
      let fresh : fresh_of command ms p asked number earlier ≡ fresh_of command ms p asked number xs =
      ap (map (first_booked p asked number)) (filter_agree (is_newcomer command p earlier) (is_newcomer command p xs) (newcomer_same earlier xs same command p) ms) in
      let rest : passing test (map again earlier) ≡ passing test (map again xs) =
      passing-map test again earlier ∙ same (λ b. test (again b)) ∙ sym (passing-map test again xs) in
      passing-append test (fresh_of command ms p asked number earlier) (map again earlier)
      ∙ ap (λ n. passing test (fresh_of command ms p asked number earlier) + n) rest
      ∙ ap (λ l. passing test l + passing test (map again xs)) fresh
      ∙ sym (passing-append test (fresh_of command ms p asked number xs) (map again xs))
      ∙ HaveSame-IsPermutation (fresh_of command ms p asked number xs ++ map again xs) after.booked h test;
}

-- ---- what stays

pub booked_again_other : (command : ℕ) (ms : List Pattern) (p : ℕ) (asked : Bool) (xs : List Booked) → (command == 0) ≡ false → map (booked_again command ms p asked) xs ≡ xs
booked_again_other command ms p asked [] other = refl
booked_again_other command ms p asked (x ∷ xs) other = rw (other, booked_again_other command ms p asked xs other) refl

pub IsInOrder-nil : ArePairsInOrder []
unfolding IsStrictlySortedBy
IsInOrder-nil = record { normal = All-nil (λ b. IsNormal b.pattern); ascending = tt }

-- ---- newcomers aren't booked

pub again_pair : (command : ℕ) (ms : List Pattern) (p : ℕ) (asked : Bool) (m : Pattern) (q : ℕ) (b : Booked) → is_pair m q (booked_again command ms p asked b) ≡ is_pair m q b
again_pair command ms p asked m q b = elim (cases_Bool (command == 0 && list_any (λ piece. is_pair piece p b) ms)) [
  | inl again ↦ rw again refl
  | inr not_again ↦ rw not_again refl
]

pub booked_again-booked : (command : ℕ) (ms : List Pattern) (p : ℕ) (asked : Bool) (m : Pattern) (q : ℕ) (xs : List Booked) → is_booked m q (map (booked_again command ms p asked) xs) ≡ is_booked m q xs
booked_again-booked command ms p asked m q xs = any-map (is_pair m q) (booked_again command ms p asked) (again_pair command ms p asked m q) xs

-- a match that includes no booked one isn't booked
pub includes_itself : (m : Pattern) → IsNormal m → includes_of m m ≡ true
includes_itself m n = includes-Includes m m n.0 n.0 (λ h i x. x)

pub booked-included : (m : Pattern) (p : ℕ) (xs : List Booked) → IsNormal m → is_booked m p xs ≡ true → includes_booked m xs ≡ true
booked-included m p xs n h =
    any_weaker (is_pair m p) (λ b. includes_of m b.pattern) (λ b same. subst (λ q. includes_of m q ≡ true) (sym (pair_parts m p b same).of_match) (includes_itself m n)) xs h

pub newcomer-unbooked : (command p : ℕ) (xs : List Booked) (m : Pattern) → IsNormal m → is_newcomer command p xs m ≡ true → is_booked m p xs ≡ false
newcomer-unbooked command p xs m n h = elim (cases_Bool (is_booked m p xs)) [
  | inr out ↦ out
  | inl within ↦ (let included = booked-included m p xs n within in absurd (none within included (rw (within, included) at h)))
]
  where
    none : is_booked m p xs ≡ true → includes_booked m xs ≡ true → (((command == 0 || command == 2) && false) || ((command == 1) && false)) ≡ true → ⊥
    none w i e = grind (arith)

unbooked_each : (command : ℕ) (ms : List Pattern) (p : ℕ) (asked : Bool) (number : ℕ) (xs : List Booked) (zs : List Pattern) → All (λ m. is_newcomer command p xs m ≡ true) zs
    → All (λ b. IsNormal b.pattern) (map (first_booked p asked number) zs) → All (λ b. is_booked b.pattern b.priority (map (booked_again command ms p asked) xs) ≡ false) (map (first_booked p asked number) zs)
unbooked_each command ms p asked number xs [] new normal = All-nil (λ b. is_booked b.pattern b.priority (map (booked_again command ms p asked) xs) ≡ false)
unbooked_each command ms p asked number xs (z ∷ zs) new normal =
    All-cons (λ b. is_booked b.pattern b.priority (map (booked_again command ms p asked) xs) ≡ false) (first_booked p asked number z) (map (first_booked p asked number) zs)
    (booked_again-booked command ms p asked z p xs
    ∙ newcomer-unbooked command p xs z (All-head (λ b. IsNormal b.pattern) (first_booked p asked number z) (map (first_booked p asked number) zs) normal) (All-head (λ m. is_newcomer command p xs m ≡ true) z zs new))
    (unbooked_each command ms p asked number xs zs (All-tail (λ m. is_newcomer command p xs m ≡ true) z zs new)
    (All-tail (λ b. IsNormal b.pattern) (first_booked p asked number z) (map (first_booked p asked number) zs) normal))

pub fresh_new : (command : ℕ) (ms : List Pattern) (p : ℕ) (asked : Bool) (number : ℕ) (xs : List Booked) → AllPairs (λ a b. a ≢ b) ms
    → All (λ b. IsNormal b.pattern) (fresh_of command ms p asked number xs) → AreNew (fresh_of command ms p asked number xs) (map (booked_again command ms p asked) xs)
fresh_new command ms p asked number xs distinct normal =
    let zs = filter (is_newcomer command p xs) ms in
    let apart = AllPairs-filter (λ a b. a ≢ b) (is_newcomer command p xs) ms distinct in
    record {
      apart = λ i j d lt within.
          let within' : j < length zs = rw (length-map zs (first_booked p asked number)) at within in
          let other : is_same (get_or zs j d.pattern) (get_or zs i d.pattern) ≡ false =
          other_match (get_or zs j d.pattern) (get_or zs i d.pattern) (λ e. apart i j d.pattern lt within' (sym e)) in
          rw (get_or-map (first_booked p asked number) zs i d.pattern d (omega arith), get_or-map (first_booked p asked number) zs j d.pattern d within', other) (both_false (p == p));
      absent = unbooked_each command ms p asked number xs zs (filter_passes (is_newcomer command p xs) ms) normal;
    }
  where
    both_false : (b : Bool) → (b && false) ≡ false
    both_false true = refl
    both_false false = refl

-- ---- the steps of a flow-mod together

module _ (command : ℕ) (ms : List Pattern) (p : ℕ) (asked : Bool) (number : ℕ) (xs fresh over : List Booked) (gathered : fresh ≡ fresh_of command ms p asked number xs)
    (again : over ≡ map (booked_again command ms p asked) xs) where
  pub unbooked_all : AllPairs (λ a b. a ≢ b) ms → All (λ b. IsNormal b.pattern) fresh → AreNew fresh over
  unbooked_all distinct normal =
      subst (AreNew fresh) (sym again)
      (subst (λ l. AreNew l (map (booked_again command ms p asked) xs)) (sym gathered) (fresh_new command ms p asked number xs distinct (subst (All (λ b. IsNormal b.pattern)) gathered normal)))

  pub added_all : (after : List Booked) → IsPermutation (fresh ++ over) after → IsPermutation (fresh_of command ms p asked number xs ++ map (booked_again command ms p asked) xs) after
  added_all after h = subst (λ l. IsPermutation (l ++ map (booked_again command ms p asked) xs) after) gathered (subst (λ l. IsPermutation (fresh ++ l) after) again h)
