-- What is found in parts of a list.
use Rattle.std.proofs.Common.{◌≡◌, ◌≢◌, ℕ, ◌==◌, ltb, not, Bool, true, false, List, [], ◌∷◌, ◌++◌, filter, refl, sym, ◌∙◌, inl, inr, arith}
use Rattle.std.specs.Prelude.{find, Option, Some, None}
use Rattle.std.specs.Option.{option_or}
use Rattle.std.proofs.lemmas.Bool.{lt-ltb, le-ltb, eqb-true, eq-eqb, ne_eqb, cases_Bool, cases_order}
use Rattle.std.proofs.lemmas.List.Folds.{find-append}
use Rattle.flowspace.proofs.Ranking.{find-filter}

-- a test that doesn't let pass what is sought
find-without : {X : Type 0} (p q : X → Bool) → ((x : X) → p x ≡ true → q x ≡ false) → (xs : List X) → find p (filter q xs) ≡ None
find-without p q stops [] = refl
find-without {X} p q stops (x ∷ xs) = elim (cases_Bool (p x)) [
  | inl sought ↦ rw (stops x sought) (find-without p q stops xs)
  | inr other ↦ elim (cases_Bool (q x)) [
    | inl passes ↦ rw (passes, other) (find-without p q stops xs)
    | inr stays ↦ rw stays (find-without p q stops xs)
  ]
]

pub or_none : {X : Type 0} (o : Option X) → option_or o None ≡ o
or_none None = refl
or_none (Some x) = refl

module _ {X : Type 0} (n : X → ℕ) where
  abbrev is_at : ℕ → X → Bool
  is_at k x = n x == k

  -- ---- an item put at its place

  pub find-put_same : (y : X) (xs : List X) → find (is_at (n y)) (filter (λ x. ltb (n x) (n y)) xs ++ y ∷ filter (λ x. ltb (n y) (n x)) xs) ≡ Some y
  find-put_same y xs =
      let front = find-without (is_at (n y)) (λ x. ltb (n x) (n y)) (λ x same. let e = eqb-true (n x) (n y) same in le-ltb (n x) (n y) (omega arith)) xs in
      let here : (n y == n y) ≡ true = eq-eqb (n y) (n y) refl in
      find-append (is_at (n y)) (filter (λ x. ltb (n x) (n y)) xs) (y ∷ filter (λ x. ltb (n y) (n x)) xs) ∙ rw (front, here) refl

  pub find-put_other : (k : ℕ) (y : X) (xs : List X) → k ≢ n y → find (is_at k) (filter (λ x. ltb (n x) (n y)) xs ++ y ∷ filter (λ x. ltb (n y) (n x)) xs) ≡ find (is_at k) xs
  find-put_other k y xs apart =
      let here : (n y == k) ≡ false = ne_eqb (n y) k (λ e. apart (sym e)) in
      let front_of = find-append (is_at k) (filter (λ x. ltb (n x) (n y)) xs) (y ∷ filter (λ x. ltb (n y) (n x)) xs) in
      elim (cases_order k (n y)) [
        | inl same ↦ absurd (apart same)
        | inr either ↦ elim either [
          | inl low ↦
              let front = find-filter (is_at k) (λ x. ltb (n x) (n y)) (λ x same. let e = eqb-true (n x) k same in lt-ltb (n x) (n y) (omega arith)) xs in
              let back = find-without (is_at k) (λ x. ltb (n y) (n x)) (λ x same. let e = eqb-true (n x) k same in le-ltb (n y) (n x) (omega arith)) xs in
              front_of ∙ rw (front, here, back) (or_none (find (is_at k) xs))
          | inr high ↦
              let front = find-without (is_at k) (λ x. ltb (n x) (n y)) (λ x same. let e = eqb-true (n x) k same in le-ltb (n x) (n y) (omega arith)) xs in
              let back = find-filter (is_at k) (λ x. ltb (n y) (n x)) (λ x same. let e = eqb-true (n x) k same in lt-ltb (n y) (n x) (omega arith)) xs in
              front_of ∙ rw (front, here, back) refl
        ]
      ]

  -- ---- items of a number taken out

  pub find-out_same : (k : ℕ) (xs : List X) → find (is_at k) (filter (λ x. not (n x == k)) xs) ≡ None
  find-out_same k xs = find-without (is_at k) (λ x. not (n x == k)) (λ x same. rw same refl) xs

  pub find-out_other : (k l : ℕ) (xs : List X) → k ≢ l → find (is_at k) (filter (λ x. not (n x == l)) xs) ≡ find (is_at k) xs
  find-out_other k l xs apart =
      find-filter (is_at k) (λ x. not (n x == l)) (λ x same. let e = eqb-true (n x) k same in rw (ne_eqb (n x) l (λ f. apart (sym e ∙ f))) refl) xs
