-- Two lists of the same pairs that are both in order are one.
use Rattle.std.proofs.Common.{◌≡◌, List, [], ◌∷◌, true, false, refl, sym, ap, ap₂, ◌∙◌, arith, inl, inr}
use Rattle.std.specs.List.{list_any}
use Rattle.std.specs.List.Sorted.{IsStrictlySortedBy}
use Rattle.std.specs.declared.cmp.Ordering.TheVariants.{Less}
use Rattle.std.specs.Ordering.{ordering_reverse}
use Rattle.std.proofs.lemmas.Bool.{cases_Bool, or_left}
use Rattle.std.proofs.lemmas.List.Elements.{All-from_recursion, All-tail}
use Rattle.std.proofs.lemmas.List.Folds.{Any-from_list_any}
use Rattle.of10_model.specs.Normal.{IsNormal}
use Rattle.flow_book.specs.declared.booked.Booked.{Booked}
use Rattle.flow_book.specs.Order.{order, ArePairsInOrder, IsBookOf}
use Rattle.flow_book.specs.Books.{BookCall, HaveSame}
use Rattle.flow_book.proofs.Order.{key_of, key_cmp_total}
use Rattle.flow_book.proofs.Counts.{any_alike, length_same, same_booked, same_from, itself}

-- where the first of a list isn't this pair, but the pair is in the list, it comes behind the first
behind_first : (x y : Booked) (ys : List Booked) → IsStrictlySortedBy order (y ∷ ys) → list_any (same_booked x) (y ∷ ys) ≡ true → same_booked x y ≡ false → order y x ≡ Less
unfolding IsStrictlySortedBy
behind_first x y ys sorted within other =
    let at = Any-from_list_any (same_booked x) ys (rw other at within) in
    let is : x ≡ at.1 = same_from x at.1 at.4 in
    let here = All-from_recursion (λ z. order y z ≡ Less) ys sorted.0 at.0 at.1 at.2 in
    rw (at.3, ← is) at here

no_both : (x y : Booked) → order x y ≡ Less → order y x ≡ Less → ⊥
no_both x y a b =
    let turned = key_cmp_total.antisymm (key_of x) (key_of y) in
    let clash : Less ≡ ordering_reverse Less = sym a ∙ turned ∙ ap ordering_reverse b in
    cc

-- the firsts of both are one
same_first : (x y : Booked) (xs ys : List Booked) → HaveSame (x ∷ xs) (y ∷ ys) → IsStrictlySortedBy order (x ∷ xs) → IsStrictlySortedBy order (y ∷ ys) → x ≡ y
same_first x y xs ys same in_xs in_ys = elim (cases_Bool (same_booked x y)) [
  | inl one ↦ same_from x y one
  | inr other ↦
      let x_there : list_any (same_booked x) (y ∷ ys) ≡ true = sym (any_alike (same_booked x) (x ∷ xs) (y ∷ ys) (same (same_booked x))) ∙ or_left (same_booked x x) (list_any (same_booked x) xs) (itself x) in
      let y_there : list_any (same_booked y) (x ∷ xs) ≡ true = any_alike (same_booked y) (x ∷ xs) (y ∷ ys) (same (same_booked y)) ∙ or_left (same_booked y y) (list_any (same_booked y) ys) (itself y) in
      elim (cases_Bool (same_booked y x)) [
        | inl one ↦ sym (same_from y x one)
        | inr apart ↦ absurd (no_both x y (behind_first y x xs in_xs y_there apart) (behind_first x y ys in_ys x_there other))
      ]
]

-- without their firsts they have the same still
same_rest : (x : Booked) (xs ys : List Booked) → HaveSame (x ∷ xs) (x ∷ ys) → HaveSame xs ys
same_rest x xs ys same test = elim (cases_Bool (test x)) [
  | inl passes ↦ (let h = rw passes at (same test) in omega (arith, h))
  | inr fails ↦ rw fails at (same test)
]

tail_in_order : (x : Booked) (xs : List Booked) → ArePairsInOrder (x ∷ xs) → ArePairsInOrder xs
unfolding IsStrictlySortedBy
tail_in_order x xs h = record { normal = All-tail (λ b. IsNormal b.pattern) x xs h.normal; ascending = h.ascending.1 }

lists_are : (xs ys : List Booked) → HaveSame xs ys → ArePairsInOrder xs → ArePairsInOrder ys → xs ≡ ys
lists_are [] [] same in_xs in_ys = refl
lists_are [] (y ∷ ys) same in_xs in_ys = let long = length_same [] (y ∷ ys) same in absurd (omega (arith, long))
lists_are (x ∷ xs) [] same in_xs in_ys = let long = length_same (x ∷ xs) [] same in absurd (omega (arith, long))
lists_are (x ∷ xs) (y ∷ ys) same in_xs in_ys =
    let first : x ≡ y = same_first x y xs ys same in_xs.ascending in_ys.ascending in
    let rest : HaveSame xs ys = same_rest x xs ys (rw (← first) at same) in
    ap₂ (λ z zs. z ∷ zs) first (lists_are xs ys rest (tail_in_order x xs in_xs) (tail_in_order y ys in_ys))

pub one_order : (calls : List BookCall) (xs ys : List Booked) → IsBookOf calls xs → IsBookOf calls ys → xs ≡ ys
one_order calls xs ys of_xs of_ys = lists_are xs ys (λ test. sym (of_xs.0 test) ∙ of_ys.0 test) of_xs.1 of_ys.1
