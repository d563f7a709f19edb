-- Lists in ascending order of a number, and their parts before a number and behind it.
use Rattle.std.proofs.Common.{◌≡◌, ◌≢◌, ℕ, zero, suc, ◌+◌, ◌<◌, ◌≤◌, ◌==◌, ltb, not, Bool, true, false, List, [], ◌∷◌, ◌++◌, length, take, drop, get_or, filter, refl, ap, inl, inr, arith}
use Rattle.std.specs.Prelude.{AllPairs}
use Rattle.std.specs.List.{list_any, AllByRecursion}
use Rattle.std.proofs.ByRecursion.{All-weaker, all_kept_by}
use Rattle.std.proofs.lemmas.List.Elements.{All-from_recursion, recursion_from_All}
use Rattle.std.proofs.lemmas.Bool.{lt-ltb, le-ltb, ltb-true, eq-eqb, ne_eqb, cases_Bool, or_left, or_right, or_from, cases_order}

module _ {X : Type 0} (n : X → ℕ) where
  abbrev before : ℕ → List X → List X
  before k xs = filter (λ x. ltb (n x) k) xs

  abbrev behind : ℕ → List X → List X
  behind k xs = filter (λ x. ltb k (n x)) xs

  abbrev others : ℕ → List X → List X
  others k xs = filter (λ x. not (n x == k)) xs

  -- where the numbers before a place are smaller, those from another on greater, and those between are equal, the list is cut there
  pub cut : (k i j : ℕ) (xs : List X) → i ≤ j
      → ((m : ℕ) (d : X) → m < i → m < length xs → n (get_or xs m d) < k)
      → ((m : ℕ) (d : X) → i ≤ m → m < j → m < length xs → n (get_or xs m d) ≡ k)
      → ((m : ℕ) (d : X) → j ≤ m → m < length xs → k < n (get_or xs m d))
      → (take i xs ≡ before k xs) × (drop j xs ≡ behind k xs) × (take i xs ++ drop j xs ≡ others k xs)
  cut k zero zero [] le low same high = (refl, refl, refl)
  cut k zero zero (x ∷ xs) le low same high =
      let here : k < n x = high zero x (omega arith) (omega arith) in
      let rest = cut k zero zero xs le (λ m d a b. absurd (omega arith)) (λ m d a b c. absurd (omega arith)) (λ m d a b. high (suc m) d (omega arith) (omega arith)) in
      rw (le-ltb (n x) k (omega arith), lt-ltb k (n x) here, ne_eqb (n x) k (λ e. omega arith))
      (rest.0, ap (λ (r : List X). x ∷ r) rest.1, ap (λ (r : List X). x ∷ r) rest.2)
  cut k zero (suc j) [] le low same high = (refl, refl, refl)
  cut k zero (suc j) (x ∷ xs) le low same high =
      let here : n x ≡ k = same zero x (omega arith) (omega arith) (omega arith) in
      let rest = cut k zero j xs (omega arith) (λ m d a b. absurd (omega arith)) (λ m d a b c. same (suc m) d (omega arith) (omega arith) (omega arith)) (λ m d a b. high (suc m) d (omega arith) (omega arith)) in
      rw (le-ltb (n x) k (omega arith), le-ltb k (n x) (omega arith), eq-eqb (n x) k here) rest
  cut k (suc i) zero xs le low same high = absurd (omega arith)
  cut k (suc i) (suc j) [] le low same high = (refl, refl, refl)
  cut k (suc i) (suc j) (x ∷ xs) le low same high =
      let here : n x < k = low zero x (omega arith) (omega arith) in
      let rest = cut k i j xs (omega arith) (λ m d a b. low (suc m) d (omega arith) (omega arith)) (λ m d a b c. same (suc m) d (omega arith) (omega arith) (omega arith)) (λ m d a b. high (suc m) d (omega arith) (omega arith)) in
      rw (lt-ltb (n x) k here, le-ltb k (n x) (omega arith), ne_eqb (n x) k (λ e. omega arith))
      (ap (λ (r : List X). x ∷ r) rest.0, rest.1, ap (λ (r : List X). x ∷ r) rest.2)

  -- some number is among those of a list
  pub any_here : (k i : ℕ) (xs : List X) → i < length xs → ((d : X) → n (get_or xs i d) ≡ k) → list_any (λ x. n x == k) xs ≡ true
  any_here k i [] within at = absurd (omega arith)
  any_here k zero (x ∷ xs) within at = or_left (n x == k) _ (eq-eqb (n x) k (at x))
  any_here k (suc i) (x ∷ xs) within at = or_right (n x == k) _ (any_here k i xs (omega arith) at)

  pub any_nowhere : (k : ℕ) (xs : List X) → ((m : ℕ) (d : X) → m < length xs → n (get_or xs m d) ≢ k) → list_any (λ x. n x == k) xs ≡ false
  any_nowhere k [] apart = refl
  any_nowhere k (x ∷ xs) apart =
      or_from (n x == k) _ (ne_eqb (n x) k (apart zero x (omega arith))) (any_nowhere k xs (λ m d within. apart (suc m) d (omega arith)))

  -- ---- ascending lists, by their first item

  abbrev pub AreAbove : ℕ → List X → Type 0
  AreAbove k xs = AllByRecursion (λ x. k < n x) xs

  abbrev pub Rises : List X → Type 0
  Rises [] = Unit {0}
  Rises (x ∷ xs) = AreAbove (n x) xs × Rises xs

  pub Rises-from_pairs : (xs : List X) → AllPairs (λ x y. n x < n y) xs → Rises xs
  Rises-from_pairs [] pairs = tt
  Rises-from_pairs (x ∷ xs) pairs =
      (recursion_from_All (λ y. n x < n y) xs (λ m d within. pairs zero (suc m) d (omega arith) (omega arith)), Rises-from_pairs xs (λ i j d lt within. pairs (suc i) (suc j) d (omega arith) (omega arith)))

  pub pairs_from_Rises : (xs : List X) → Rises xs → AllPairs (λ x y. n x < n y) xs
  pairs_from_Rises [] rises i j d lt within = absurd (omega arith)
  pairs_from_Rises (x ∷ xs) rises i zero d lt within = absurd (omega arith)
  pairs_from_Rises (x ∷ xs) rises zero (suc j) d lt within = All-from_recursion (λ y. n x < n y) xs rises.0 j d (omega arith)
  pairs_from_Rises (x ∷ xs) rises (suc i) (suc j) d lt within = pairs_from_Rises xs rises.1 i j d (omega arith) (omega arith)

  pub Rises-filter : (p : X → Bool) (xs : List X) → Rises xs → Rises (filter p xs)
  Rises-filter p [] rises = tt
  Rises-filter p (x ∷ xs) rises = elim (cases_Bool (p x)) [
    | inl passes ↦ rw passes (all_kept_by p (λ y. n x < n y) xs rises.0, Rises-filter p xs rises.1)
    | inr stays ↦ rw stays (Rises-filter p xs rises.1)
  ]

  AreAbove-behind : (k : ℕ) (xs : List X) → AreAbove k (behind k xs)
  AreAbove-behind k [] = tt
  AreAbove-behind k (x ∷ xs) = elim (cases_order k (n x)) [
    | inl e ↦ rw (le-ltb k (n x) (omega arith)) (AreAbove-behind k xs)
    | inr apart ↦ elim apart [
      | inl lt ↦ rw (lt-ltb k (n x) lt) (lt, AreAbove-behind k xs)
      | inr gt ↦ rw (le-ltb k (n x) (omega arith)) (AreAbove-behind k xs)
    ]
  ]

  -- an item behind those before it
  AreAbove-with : (k : ℕ) (y : X) (front back : List X) → k < n y → AreAbove k front → AreAbove (n y) back → AreAbove k (front ++ y ∷ back)
  AreAbove-with k y [] back lt low high = (lt, All-weaker (λ x. n y < n x) (λ x. k < n x) (λ x above. omega (arith, lt, above)) back high)
  AreAbove-with k y (x ∷ front) back lt low high = (low.0, AreAbove-with k y front back lt low.1 high)

  Rises-with : (y : X) (xs back : List X) → Rises xs → AreAbove (n y) back → Rises back → Rises (before (n y) xs ++ y ∷ back)
  Rises-with y [] back rises high later = (high, later)
  Rises-with y (x ∷ xs) back rises high later = elim (cases_Bool (ltb (n x) (n y))) [
    | inl passes ↦ rw passes (AreAbove-with (n x) y (before (n y) xs) back (ltb-true (n x) (n y) passes) (all_kept_by (λ z. ltb (n z) (n y)) (λ z. n x < n z) xs rises.0) high, Rises-with y xs back rises.1 high later)
    | inr stays ↦ rw stays (Rises-with y xs back rises.1 high later)
  ]

  -- an item at its place
  pub Rises-put : (y : X) (xs : List X) → Rises xs → Rises (before (n y) xs ++ y ∷ behind (n y) xs)
  Rises-put y xs rises = Rises-with y xs (behind (n y) xs) rises (AreAbove-behind (n y) xs) (Rises-filter (λ x. ltb (n y) (n x)) xs rises)

  -- ---- how many

  pub length-parts : (k : ℕ) (xs : List X) → length (before k xs) + length (behind k xs) ≤ length xs
  length-parts k [] = omega arith
  length-parts k (x ∷ xs) = let rest = length-parts k xs in elim (cases_order k (n x)) [
    | inl e ↦ rw (le-ltb k (n x) (omega arith), le-ltb (n x) k (omega arith)) (omega arith)
    | inr apart ↦ elim apart [
      | inl lt ↦ rw (lt-ltb k (n x) lt, le-ltb (n x) k (omega arith)) (omega arith)
      | inr gt ↦ rw (le-ltb k (n x) (omega arith), lt-ltb (n x) k gt) (omega arith)
    ]
  ]

  pub length-parts_known : (k : ℕ) (xs : List X) → list_any (λ x. n x == k) xs ≡ true → length (before k xs) + length (behind k xs) + 1 ≤ length xs
  length-parts_known k [] known = cc
  length-parts_known k (x ∷ xs) known = elim (cases_order k (n x)) [
    | inl e ↦ let rest = length-parts k xs in rw (le-ltb k (n x) (omega arith), le-ltb (n x) k (omega arith)) (omega arith)
    | inr apart ↦
        let other : (n x == k) ≡ false = elim apart [ inl lt ↦ ne_eqb (n x) k (λ e. omega arith) | inr gt ↦ ne_eqb (n x) k (λ e. omega arith) ] in
        let rest = length-parts_known k xs (rw other at known) in
        elim apart [
          | inl lt ↦ rw (lt-ltb k (n x) lt, le-ltb (n x) k (omega arith)) (omega arith)
          | inr gt ↦ rw (le-ltb k (n x) (omega arith), lt-ltb (n x) k gt) (omega arith)
        ]
  ]
