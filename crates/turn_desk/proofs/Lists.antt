-- Sums and places in lists, and beginnings.
use Rattle.std.proofs.Common.{◌≡◌, ◌⊎◌, ℕ, zero, suc, ◌+◌, ◌≤◌, List, [], ◌∷◌, ◌++◌, length, set, refl, sym, ap, inl, inr, ⊎_elim, arith}
use mathlib.Core.Option.{some, some-injective, some-ne-none}
use lib.ListN.{get_elem?}
use Rattle.turn_desk.specs.declared.view.Entry.{Entry}
use Rattle.turn_desk.specs.Histories.{NoneBy}
use Rattle.turn_desk.specs.Rule.{total}

module _ {V : Type 0} where
  pub total_set : (f : V → ℕ) (vs : List V) (i : ℕ) (v w : V) → get_elem? vs i ≡ some v → total f (set vs i w) + f v ≡ total f vs + f w
  total_set f [] i v w e = absurd (some-ne-none v (sym e))
  total_set f (x ∷ xs) zero v w e = let p : f x ≡ f v = ap f (some-injective x v e) in omega arith
  total_set f (x ∷ xs) (suc i) v w e = let p = total_set f xs i v w e in omega arith

  pub total_snoc : (f : V → ℕ) (vs : List V) (w : V) → total f (vs ++ w ∷ []) ≡ total f vs + f w
  total_snoc f [] w = omega arith
  total_snoc f (x ∷ xs) w = let p = total_snoc f xs w in omega arith

  pub part_total : (f : V → ℕ) (vs : List V) (i : ℕ) (v : V) → get_elem? vs i ≡ some v → f v ≤ total f vs
  part_total f [] i v e = absurd (some-ne-none v (sym e))
  part_total f (x ∷ xs) zero v e = let p : f x ≡ f v = ap f (some-injective x v e) in omega arith
  part_total f (x ∷ xs) (suc i) v e = let p = part_total f xs i v e in omega arith

  pub set_there : (vs : List V) (i : ℕ) (v w : V) → get_elem? vs i ≡ some v → get_elem? (set vs i w) i ≡ some w
  set_there [] i v w e = absurd (some-ne-none v (sym e))
  set_there (x ∷ xs) zero v w e = refl
  set_there (x ∷ xs) (suc i) v w e = set_there xs i v w e

  -- what stands at k after a change at i
  pub kept_at : (vs : List V) (i k : ℕ) (w u : V) → get_elem? vs k ≡ some u → (k ≡ i) ⊎ (get_elem? (set vs i w) k ≡ some u)
  kept_at [] i k w u e = absurd (some-ne-none u (sym e))
  kept_at (x ∷ xs) zero zero w u e = inl refl
  kept_at (x ∷ xs) zero (suc k) w u e = inr e
  kept_at (x ∷ xs) (suc i) zero w u e = inr e
  kept_at (x ∷ xs) (suc i) (suc k) w u e = ⊎_elim (λ p. inl (ap suc p)) (λ p. inr p) (kept_at xs i k w u e)

  pub at_end : (l : List V) (r u : V) (k : ℕ) → get_elem? (l ++ r ∷ []) k ≡ some u → (get_elem? l k ≡ some u) ⊎ ((k ≡ length l) × (r ≡ u))
  at_end [] r u zero e = inr (refl, some-injective r u e)
  at_end [] r u (suc k) e = absurd (some-ne-none u (sym e))
  at_end (x ∷ xs) r u zero e = inl e
  at_end (x ∷ xs) r u (suc k) e = ⊎_elim (λ p. inl p) (λ p. inr (ap suc p.0, p.1)) (at_end xs r u k e)

module _ {P R : Type 0} where
  pub none_front : (n : ℕ) (xs ys : List (Entry P R)) → NoneBy n (xs ++ ys) → NoneBy n xs
  none_front n [] ys h = tt
  none_front n (x ∷ xs) ys h = (h.0, none_front n xs ys h.1)

  pub none_back : (n : ℕ) (xs ys : List (Entry P R)) → NoneBy n (xs ++ ys) → NoneBy n ys
  none_back n [] ys h = h
  none_back n (x ∷ xs) ys h = none_back n xs ys h.1

  -- of two beginnings of one list the shorter begins the longer
  pub shorter : (xs ys us vs : List (Entry P R)) → xs ++ us ≡ ys ++ vs → length xs ≤ length ys → (mid : List (Entry P R)) × (ys ≡ xs ++ mid) × (us ≡ mid ++ vs)
  shorter [] ys us vs e h = (ys, refl, e)
  shorter (x ∷ xs) [] us vs e h = absurd (omega arith)
  shorter (x ∷ xs) (y ∷ ys) us vs e h =
      let p = cons_parts x y (xs ++ us) (ys ++ vs) e in
      let r = shorter xs ys us vs p.1 (omega arith) in (r.0, (λ i. sym p.0 i ∷ r.1 i), r.2)
    where
      one : (a b : Entry P R) (us' vs' : List (Entry P R)) → a ∷ us' ≡ b ∷ vs' → a ≡ b
      one a b us' vs' e = cc

      more : (a b : Entry P R) (us' vs' : List (Entry P R)) → a ∷ us' ≡ b ∷ vs' → us' ≡ vs'
      more a b us' vs' e = cc

      cons_parts : (a b : Entry P R) (us' vs' : List (Entry P R)) → a ∷ us' ≡ b ∷ vs' → (a ≡ b) × (us' ≡ vs')
      cons_parts a b us' vs' e = (one a b us' vs' e, more a b us' vs' e)
