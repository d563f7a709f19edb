-- Pairs that are put in order are the list in order that has the same pairs.
use Rattle.std.proofs.Common.{◌≡◌, Bool, true, false, List, [], ◌∷◌, length, refl, sym, ap, ◌∙◌, subst, arith, inl, inr}
use Rattle.std.specs.Prelude.{filter}
use Rattle.std.specs.List.{list_any, AllByRecursion}
use Rattle.std.specs.List.Sorted.{IsStrictlySortedBy}
use Rattle.std.specs.declared.cmp.Ordering.TheVariants.{Less}
use Rattle.std.specs.Ordering.{is_lt, ordering_reverse}
use Rattle.std.proofs.lemmas.Bool.{cases_Bool, or_left}
use Rattle.std.proofs.lemmas.List.Elements.{All-from_recursion}
use Rattle.std.proofs.lemmas.List.Folds.{Any-from_list_any}
use Rattle.flow_book.specs.declared.booked.Booked.{Booked}
use Rattle.flow_book.specs.Order.{order, IsBookOf}
use Rattle.flow_book.specs.Books.{BookCall, book, HaveSame}
use Rattle.flow_book.proofs.Order.{key_of, key_cmp_total}
use Rattle.flow_book.proofs.Counts.{any_alike, length_same, same_booked, same_from, itself}
use Rattle.change_words.specs.BookOrder.{put_among, in_book_order}

-- a list in order without one of its pairs, which comes back where it was when it is put among the others
record Without (x : Booked) (ys : List Booked) : Type 0 where
  others : List Booked
  ascending : IsStrictlySortedBy order others
  within : (y : Booked) → AllByRecursion (λ z. order y z ≡ Less) ys → AllByRecursion (λ z. order y z ≡ Less) others
  counts : (test : Booked → Bool) → length (filter test ys) ≡ length (filter test (x ∷ others))
  back : put_among x others ≡ ys

-- a pair stands above the first of a list in order, behind which it stands
above_first : (x y : Booked) (ys : List Booked) → AllByRecursion (λ z. order y z ≡ Less) ys → list_any (same_booked x) ys ≡ true → is_lt (order x y) ≡ false
above_first x y ys below there =
    let at = Any-from_list_any (same_booked x) ys there in
    let is : x ≡ at.1 = same_from x at.1 at.4 in
    let here = All-from_recursion (λ z. order y z ≡ Less) ys below at.0 at.1 at.2 in
    let less : order y x ≡ Less = rw (at.3, ← is) at here in
    ap is_lt (key_cmp_total.antisymm (key_of x) (key_of y) ∙ ap ordering_reverse less)

put_first : (y : Booked) (ys : List Booked) → IsStrictlySortedBy order (y ∷ ys) → put_among y ys ≡ y ∷ ys
unfolding put_among IsStrictlySortedBy
put_first y [] sorted = refl
put_first y (z ∷ zs) sorted = rw (sorted.0.0) refl

put_later : (x y : Booked) (others ys : List Booked) → is_lt (order x y) ≡ false → put_among x others ≡ ys → put_among x (y ∷ others) ≡ y ∷ ys
unfolding put_among
put_later x y others ys above back = rw above (ap (λ zs. y ∷ zs) back)

counts_later : (x y : Booked) (others ys : List Booked) (test : Booked → Bool) → length (filter test ys) ≡ length (filter test (x ∷ others)) → length (filter test (y ∷ ys)) ≡ length (filter test (x ∷ (y ∷ others)))
counts_later x y others ys test same = elim (cases_Bool (test x)) [
  | inl x_passes ↦ elim (cases_Bool (test y)) [
    | inl y_passes ↦ (let now = rw x_passes at same in rw (x_passes, y_passes) (omega (arith, now)))
    | inr y_fails ↦ (let now = rw x_passes at same in rw (x_passes, y_fails) now)
  ]
  | inr x_fails ↦ elim (cases_Bool (test y)) [
    | inl y_passes ↦ (let now = rw x_fails at same in rw (x_fails, y_passes) (omega (arith, now)))
    | inr y_fails ↦ (let now = rw x_fails at same in rw (x_fails, y_fails) now)
  ]
]

without : (x : Booked) (ys : List Booked) → IsStrictlySortedBy order ys → list_any (same_booked x) ys ≡ true → Without x ys
unfolding IsStrictlySortedBy
without x [] sorted there = absurd (cc)
without x (y ∷ ys) sorted there = elim (cases_Bool (same_booked x y)) [
  | inl one ↦
      let is : x ≡ y = same_from x y one in
      subst (λ z. Without z (y ∷ ys)) (sym is) (record {
        others = ys;
        ascending = sorted.1;
        within = λ z all. all.1;
        counts = λ test. refl;
        back = put_first y ys sorted;
      })
  | inr other ↦
      let behind : list_any (same_booked x) ys ≡ true = rw other at there in
      let rest = without x ys sorted.1 behind in
      record {
        others = y ∷ rest.others;
        ascending = (rest.within y sorted.0, rest.ascending);
        within = λ z all. (all.0, rest.within z all.1);
        counts = λ test. counts_later x y rest.others ys test (rest.counts test);
        back = put_later x y rest.others ys (above_first x y ys sorted.0 behind) rest.back;
      }
]

-- without their first, two lists have the same still
rest_same : (x : Booked) (xs ys : List Booked) → HaveSame (x ∷ xs) (x ∷ ys) → HaveSame xs ys
rest_same x xs ys same test = elim (cases_Bool (test x)) [
  | inl passes ↦ (let h = rw passes at (same test) in omega (arith, h))
  | inr fails ↦ rw fails at (same test)
]

put_in_order : (xs ys : List Booked) → HaveSame xs ys → IsStrictlySortedBy order ys → in_book_order xs ≡ ys
unfolding in_book_order
put_in_order [] [] same sorted = refl
put_in_order [] (y ∷ ys) same sorted = let long = length_same [] (y ∷ ys) same in absurd (omega (arith, long))
put_in_order (x ∷ xs) ys same sorted =
    let there : list_any (same_booked x) ys ≡ true = sym (any_alike (same_booked x) (x ∷ xs) ys (same (same_booked x))) ∙ or_left (same_booked x x) (list_any (same_booked x) xs) (itself x) in
    let one = without x ys sorted there in
    let rest : HaveSame xs one.others = rest_same x xs one.others (λ test. same test ∙ one.counts test) in
    ap (put_among x) (put_in_order xs one.others rest one.ascending) ∙ one.back

-- what is booked after calls, put in order, is the book of these calls
pub booked_in_order : (calls : List BookCall) (pairs : List Booked) → IsBookOf calls pairs → in_book_order (book calls) ≡ pairs
booked_in_order calls pairs is = put_in_order (book calls) pairs is.0 is.1.ascending
