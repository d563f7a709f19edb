-- Lists by descending rank: what `ranked` gives, and that nothing else is in that order.
use Rattle.std.proofs.Common.{◌≡◌, ◌⊎◌, ℕ, zero, suc, ◌+◌, ◌<◌, ◌≤◌, Bool, true, false, cond, leb, List, [], ◌∷◌, length, get_or, map, filter, refl, sym, ap, ◌∙◌, arith, inl, inr, leb-true, leb-false, eqb-true, eq-eqb, not, ◌&&◌, ◌==◌, is_lt, nat_cmp}
use mathlib.Core.Bool.{and_comm}
use Rattle.std.specs.Prelude.{find}
use Rattle.std.proofs.lemmas.Bool.{cond-true, cond-false, cases_Bool}
use Rattle.std.proofs.lemmas.Bool.Decides.{nat_tests}
use Rattle.std.proofs.lemmas.List.Sorted.{IsPermutation-refl, IsPermutation-cons, IsPermutation-trans, IsPermutation-sym, IsPermutation-middle}
use Rattle.std.proofs.lemmas.List.Elements.{All-from_recursion, filter_agree}
use Rattle.std.proofs.lemmas.Map.Keys.{ge_from_not_lt}
use Rattle.std.proofs.ByRecursion.{All-weaker, all_kept_by}
use Rattle.std.specs.List.{AllByRecursion}
use Rattle.std.specs.List.Sorted.{IsPermutation, IsSortedBy, IsStableBy, ties}
use Rattle.flowspace.specs.Order.{placed, ranked}

tied : (m n : ℕ) → (not (is_lt (nat_cmp n m)) && not (is_lt (nat_cmp m n))) ≡ (n == m)
tied m n = grind (arith, nat_tests)

-- ---- what a filter keeps

kept_by : {A : Type 0} (p : A → Bool) (x : A) (xs : List A) → p x ≡ true → filter p (x ∷ xs) ≡ x ∷ filter p xs
kept_by p x xs h = cond-true _ _ _ h

left_by : {A : Type 0} (p : A → Bool) (x : A) (xs : List A) → p x ≡ false → filter p (x ∷ xs) ≡ filter p xs
left_by p x xs h = cond-false _ _ _ h

-- two tests, one after the other, are one
pub filter-both : {A : Type 0} (p q : A → Bool) (xs : List A) → filter p (filter q xs) ≡ filter (λ x. q x && p x) xs
filter-both p q [] = refl
filter-both p q (x ∷ xs) = elim (cases_Bool (q x)) [
  | inl passes ↦ rw (passes, filter-both p q xs) refl
  | inr stops ↦ rw (stops, filter-both p q xs) refl
]

-- in which order two tests are made does not matter
pub filter-filter : {A : Type 0} (p q : A → Bool) (xs : List A) → filter p (filter q xs) ≡ filter q (filter p xs)
filter-filter p q xs = filter-both p q xs ∙ filter_agree (λ x. q x && p x) (λ x. p x && q x) (λ x. and_comm (q x) (p x)) xs ∙ sym (filter-both q p xs)

stricter : (b c : Bool) → (c ≡ true → b ≡ true) → (b && c) ≡ c
stricter true c lets = refl
stricter false true lets = lets refl
stricter false false lets = refl

-- one test lets pass what the other does
pub filter-through : {A : Type 0} (p q : A → Bool) → ((x : A) → p x ≡ true → q x ≡ true) → (xs : List A) → filter p (filter q xs) ≡ filter p xs
filter-through p q lets xs = filter-both p q xs ∙ filter_agree (λ x. q x && p x) p (λ x. stricter (q x) (p x) (lets x)) xs

-- a test lets pass what is sought
pub find-filter : {A : Type 0} (p q : A → Bool) → ((x : A) → p x ≡ true → q x ≡ true) → (xs : List A) → find p (filter q xs) ≡ find p xs
find-filter p q lets [] = refl
find-filter p q lets (x ∷ xs) = elim (cases_Bool (p x)) [
  | inl sought ↦ rw (sought, lets x sought) (rw sought refl)
  | inr other ↦ elim (cases_Bool (q x)) [
    | inl passes ↦ rw (passes, other) (find-filter p q lets xs)
    | inr stops ↦ rw (stops, other) (find-filter p q lets xs)
  ]
]

swapped : {A : Type 0} (x y : A) (ys : List A) → IsPermutation (x ∷ (y ∷ ys)) (y ∷ (x ∷ ys))
swapped x y ys = IsPermutation-sym _ _ (IsPermutation-middle (y ∷ []) x ys)

module _ {A : Type 0} (rank : A → ℕ) where
  -- an element has this rank
  abbrev pub has_rank : ℕ → A → Bool
  has_rank p x = rank x == p

  -- the test by which a sort by descending rank compares two elements
  abbrev pub goes_before : A → A → Bool
  goes_before x y = is_lt (nat_cmp (rank y) (rank x))

  has_rank-true : (p : ℕ) (x : A) → has_rank p x ≡ true → rank x ≡ p
  has_rank-true p x h = eqb-true (rank x) p h

  has_rank-eq : (p : ℕ) (x : A) → rank x ≡ p → has_rank p x ≡ true
  has_rank-eq p x h = eq-eqb (rank x) p h

  -- ---- how an element is placed

  pub placed-here : (x y : A) (ys : List A) → leb (rank y) (rank x) ≡ true → placed rank x (y ∷ ys) ≡ x ∷ (y ∷ ys)
  placed-here x y ys h = cond-true _ _ _ h

  pub placed-later : (x y : A) (ys : List A) → leb (rank y) (rank x) ≡ false → placed rank x (y ∷ ys) ≡ y ∷ placed rank x ys
  placed-later x y ys h = cond-false _ _ _ h

  -- ---- the same elements

  pub IsPermutation-placed : (x : A) (ys : List A) → IsPermutation (x ∷ ys) (placed rank x ys)
  IsPermutation-placed x [] = IsPermutation-refl (x ∷ [])
  IsPermutation-placed x (y ∷ ys) =
      elim (cases_Bool (leb (rank y) (rank x))) [
        | inl here ↦ rw (placed-here x y ys here) (IsPermutation-refl (x ∷ (y ∷ ys)))
        | inr later ↦ rw (placed-later x y ys later) (IsPermutation-trans _ (y ∷ (x ∷ ys)) _ (swapped x y ys) (IsPermutation-cons y _ _ (IsPermutation-placed x ys)))
      ]

  pub IsPermutation-ranked : (xs : List A) → IsPermutation xs (ranked rank xs)
  IsPermutation-ranked [] = IsPermutation-refl []
  IsPermutation-ranked (x ∷ xs) =
      IsPermutation-trans _ (x ∷ ranked rank xs) _ (IsPermutation-cons x _ _ (IsPermutation-ranked xs)) (IsPermutation-placed x (ranked rank xs))

  -- ---- among equals the order that was given

  filter-placed : (p : ℕ) (x : A) (ys : List A) → filter (has_rank p) (placed rank x ys) ≡ filter (has_rank p) (x ∷ ys)
  filter-placed p x [] = refl
  filter-placed p x (y ∷ ys) =
      elim (cases_Bool (leb (rank y) (rank x))) [
        | inl here ↦ ap (filter (has_rank p)) (placed-here x y ys here)
        | inr later ↦
            ap (filter (has_rank p)) (placed-later x y ys later)
            ∙ elim (cases_Bool (has_rank p y)) [
              | inr without ↦
                  left_by (has_rank p) y (placed rank x ys) without ∙ filter-placed p x ys
                  ∙ ap (λ l. cond (has_rank p x) (x ∷ l) l) (sym (left_by (has_rank p) y ys without))
              | inl with ↦
                  elim (cases_Bool (has_rank p x)) [
                    | inl both ↦ absurd (omega (arith, has_rank-true p x both, has_rank-true p y with, leb-false (rank y) (rank x) later))
                    | inr only ↦
                        kept_by (has_rank p) y (placed rank x ys) with ∙ ap (λ l. y ∷ l) (filter-placed p x ys ∙ left_by (has_rank p) x ys only)
                        ∙ sym (left_by (has_rank p) x (y ∷ ys) only ∙ kept_by (has_rank p) y ys with)
                  ]
            ]
      ]

  pub filter-ranked : (p : ℕ) (xs : List A) → filter (has_rank p) (ranked rank xs) ≡ filter (has_rank p) xs
  filter-ranked p [] = refl
  filter-ranked p (x ∷ xs) = filter-placed p x (ranked rank xs) ∙ ap (λ l. cond (has_rank p x) (x ∷ l) l) (filter-ranked p xs)

  -- ---- descending ranks

  -- no rank is above n
  abbrev pub AreAtMost : ℕ → List A → Type 0
  AreAtMost n xs = AllByRecursion (λ x. rank x ≤ n) xs

  -- no rank is above an earlier one
  abbrev pub Falls : List A → Type 0
  Falls [] = Unit {0}
  Falls (x ∷ xs) = AreAtMost (rank x) xs × Falls xs

  AreAtMost-le : (m n : ℕ) (xs : List A) → m ≤ n → AreAtMost m xs → AreAtMost n xs
  AreAtMost-le m n xs le h = All-weaker (λ x. rank x ≤ m) (λ x. rank x ≤ n) (λ x low. omega (arith, le, low)) xs h

  AreAtMost-placed : (n : ℕ) (x : A) (ys : List A) → rank x ≤ n → AreAtMost n ys → AreAtMost n (placed rank x ys)
  AreAtMost-placed n x [] le h = (le, tt)
  AreAtMost-placed n x (y ∷ ys) le h =
      elim (cases_Bool (leb (rank y) (rank x))) [
        | inl here ↦ rw (placed-here x y ys here) (le, h)
        | inr later ↦ rw (placed-later x y ys later) (h.0, AreAtMost-placed n x ys le h.1)
      ]

  Falls-placed : (x : A) (ys : List A) → Falls ys → Falls (placed rank x ys)
  Falls-placed x [] h = (tt, tt)
  Falls-placed x (y ∷ ys) h =
      elim (cases_Bool (leb (rank y) (rank x))) [
        | inl here ↦
            let le = leb-true (rank y) (rank x) here in
            rw (placed-here x y ys here) ((le, AreAtMost-le (rank y) (rank x) ys le h.0), h)
        | inr later ↦
            let lt = leb-false (rank y) (rank x) later in
            rw (placed-later x y ys later) (AreAtMost-placed (rank y) x ys (omega arith) h.0, Falls-placed x ys h.1)
      ]

  pub Falls-ranked : (xs : List A) → Falls (ranked rank xs)
  Falls-ranked [] = tt
  Falls-ranked (x ∷ xs) = Falls-placed x (ranked rank xs) (Falls-ranked xs)

  pub Falls-at : (xs : List A) → Falls xs → (i j : ℕ) (d : A) → i < j → j < length xs → rank (get_or xs j d) ≤ rank (get_or xs i d)
  Falls-at [] h i j d lt long = absurd (omega arith)
  Falls-at (x ∷ xs) h i zero d lt long = absurd (omega arith)
  Falls-at (x ∷ xs) h zero (suc j) d lt long = All-from_recursion (λ y. rank y ≤ rank x) xs h.0 j d (omega arith)
  Falls-at (x ∷ xs) h (suc i) (suc j) d lt long = Falls-at xs h.1 i j d (omega arith) (omega arith)

  -- from neighbours, as a sort compares them
  pub Falls-neighbours : (xs : List A) → ((k : ℕ) (d : A) → k + 1 < length xs → rank (get_or xs (k + 1) d) ≤ rank (get_or xs k d)) → Falls xs
  Falls-neighbours [] h = tt
  Falls-neighbours (x ∷ []) h = (tt, tt)
  Falls-neighbours (x ∷ y ∷ rest) h =
      let le : rank y ≤ rank x = h 0 x (omega arith) in
      let later = Falls-neighbours (y ∷ rest) (λ k d lt. let e : suc k + 1 ≡ suc (k + 1) = omega arith in let step = h (suc k) d (omega arith) in rw e at step) in
      ((le, AreAtMost-le (rank y) (rank x) rest le later.0), later)

  -- ---- nothing else is in that order

  -- an element of a rank is among them
  AreAtMost-found : (n p : ℕ) (xs : List A) (w : A) (ws : List A) → AreAtMost n xs → filter (has_rank p) xs ≡ w ∷ ws → p ≤ n
  AreAtMost-found n p [] w ws h e = cc
  AreAtMost-found n p (x ∷ xs) w ws h e =
      elim (cases_Bool (has_rank p x)) [
        | inl with ↦ let first = h.0 in omega (arith, has_rank-true p x with)
        | inr without ↦ AreAtMost-found n p xs w ws h.1 (sym (left_by (has_rank p) x xs without) ∙ e)
      ]

  pub same_from_filters : (ys zs : List A) → Falls ys → Falls zs → ((p : ℕ) → filter (has_rank p) ys ≡ filter (has_rank p) zs) → ys ≡ zs
  same_from_filters [] [] left right same = refl
  same_from_filters [] (z ∷ zs) left right same =
      let clash = same (rank z) ∙ kept_by (has_rank (rank z)) z zs (has_rank-eq (rank z) z refl) in cc
  same_from_filters (y ∷ ys) [] left right same =
      let clash = sym (same (rank y)) ∙ kept_by (has_rank (rank y)) y ys (has_rank-eq (rank y) y refl) in cc
  same_from_filters (y ∷ ys) (z ∷ zs) left right same =
      let at_y = kept_by (has_rank (rank y)) y ys (has_rank-eq (rank y) y refl) in
      let at_z = kept_by (has_rank (rank z)) z zs (has_rank-eq (rank z) z refl) in
      let up = AreAtMost-found (rank z) (rank y) (z ∷ zs) y _ (omega arith, right.0) (sym (same (rank y)) ∙ at_y) in
      let down = AreAtMost-found (rank y) (rank z) (y ∷ ys) z _ (omega arith, left.0) (same (rank z) ∙ at_z) in
      let heads = sym at_y ∙ same (rank y) ∙ kept_by (has_rank (rank y)) z zs (has_rank-eq (rank y) z (omega arith)) in
      let head : y ≡ z = cc in
      let tails : (p : ℕ) → filter (has_rank p) ys ≡ filter (has_rank p) zs =
      λ p. elim (cases_Bool (has_rank p y)) [
        | inl with ↦
            let both = sym (kept_by (has_rank p) y ys with) ∙ same p ∙ kept_by (has_rank p) z zs (ap (has_rank p) (sym head) ∙ with) in cc
        | inr without ↦
            sym (left_by (has_rank p) y ys without) ∙ same p ∙ left_by (has_rank p) z zs (ap (has_rank p) (sym head) ∙ without)
      ] in
      ap (λ w. w ∷ ys) head ∙ ap (λ l. z ∷ l) (same_from_filters ys zs left.1 right.1 tails)

  -- ---- the elements of a part

  Falls-filter : (p : A → Bool) (xs : List A) → Falls xs → Falls (filter p xs)
  Falls-filter p [] h = tt
  Falls-filter p (x ∷ xs) h =
      elim (cases_Bool (p x)) [
        | inl kept ↦ rw (cond-true _ _ _ kept) (all_kept_by p (λ y. rank y ≤ rank x) xs h.0, Falls-filter p xs h.1)
        | inr left ↦ rw (cond-false _ _ _ left) (Falls-filter p xs h.1)
      ]

  -- the elements of a part stand in the order that they have among all
  pub ranked-filter : (p : A → Bool) (xs : List A) → ranked rank (filter p xs) ≡ filter p (ranked rank xs)
  ranked-filter p xs =
      same_from_filters (ranked rank (filter p xs)) (filter p (ranked rank xs)) (Falls-ranked (filter p xs)) (Falls-filter p (ranked rank xs) (Falls-ranked xs))
      (λ n. filter-ranked n (filter p xs) ∙ filter-filter (has_rank n) p xs ∙ ap (filter p) (sym (filter-ranked n xs))
      ∙ filter-filter p (has_rank n) (ranked rank xs))

  -- ---- what a sort gives

  filter-tied : (p : ℕ) (example : A) → rank example ≡ p → (xs : List A) → filter (ties goes_before example) xs ≡ filter (has_rank p) xs
  filter-tied p example is xs =
      filter_agree (ties goes_before example) (has_rank p) (λ x. tied (rank example) (rank x) ∙ ap (λ n. rank x == n) is) xs

  -- an element has this rank, or none has it
  abbrev pub IsRankOrNone : ℕ → A → Type 0
  IsRankOrNone p example = (rank example ≡ p) ⊎ ((x : A) → has_rank p x ≡ false)

  none_ranked : (p : ℕ) → ((x : A) → has_rank p x ≡ false) → (xs : List A) → filter (has_rank p) xs ≡ []
  none_ranked p none [] = refl
  none_ranked p none (x ∷ xs) = left_by (has_rank p) x xs (none x) ∙ none_ranked p none xs

  -- a stable sort keeps the elements of one rank as they stood
  kept_ranks : (p : ℕ) (example : A) → IsRankOrNone p example → (xs sorted : List A) → IsStableBy goes_before xs sorted → filter (has_rank p) sorted ≡ filter (has_rank p) xs
  kept_ranks p example (inl is) xs sorted stable = sym (filter-tied p example is sorted) ∙ stable example ∙ filter-tied p example is xs
  kept_ranks p example (inr none) xs sorted stable = none_ranked p none sorted ∙ sym (none_ranked p none xs)

  -- what a stable sort by descending rank makes
  pub ranked-from_sort : (example : ℕ → A) → ((p : ℕ) → IsRankOrNone p (example p)) → (xs sorted : List A) → IsSortedBy goes_before sorted → IsStableBy goes_before xs sorted → sorted ≡ ranked rank xs
  ranked-from_sort example ranks xs sorted up stable =
      same_from_filters sorted (ranked rank xs) (Falls-neighbours sorted (λ k d lt. ge_from_not_lt _ _ (up k d (omega arith) lt)))
      (Falls-ranked xs)
      (λ p. kept_ranks p (example p) (ranks p) xs sorted stable ∙ sym (filter-ranked p xs))

-- an order by a rank that a view gives is the order of what it views
map-placed : {A B : Type 0} (view : A → B) (rank : B → ℕ) (x : A) (ys : List A) → map view (placed (λ y. rank (view y)) x ys) ≡ placed rank (view x) (map view ys)
map-placed view rank x [] = refl
map-placed view rank x (y ∷ ys) =
    elim (cases_Bool (leb (rank (view y)) (rank (view x)))) [
      | inl here ↦ rw (placed-here (λ z. rank (view z)) x y ys here, placed-here rank (view x) (view y) (map view ys) here) refl
      | inr later ↦
          rw (placed-later (λ z. rank (view z)) x y ys later, placed-later rank (view x) (view y) (map view ys) later)
          (ap (λ l. view y ∷ l) (map-placed view rank x ys))
    ]

pub map-ranked : {A B : Type 0} (view : A → B) (rank : B → ℕ) (xs : List A) → map view (ranked (λ x. rank (view x)) xs) ≡ ranked rank (map view xs)
map-ranked view rank [] = refl
map-ranked view rank (x ∷ xs) = map-placed view rank x (ranked (λ y. rank (view y)) xs) ∙ ap (placed rank (view x)) (map-ranked view rank xs)
