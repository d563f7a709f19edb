-- Lists in which one place is changed.
use Rattle.std.proofs.Common.{◌≡◌, ◌≢◌, ℕ, zero, suc, List, [], ◌∷◌, ◌++◌, length, set, slice_get, refl, sym, ap, ◌∙◌, inl, inr, ◌⊎◌, Some}
use Rattle.std.proofs.lemmas.Option.{none-some, same_Some, get_or_from_slice_get}
use Rattle.std.proofs.lemmas.List.{set-get_or}

pub get_set : {A : Type 0} (xs : List A) (i : ℕ) (x y : A) → slice_get xs i ≡ Some x → slice_get (set xs i y) i ≡ Some y
get_set [] i x y is = absurd (none-some x is)
get_set (z ∷ xs) zero x y is = refl
get_set (z ∷ xs) (suc i) x y is = get_set xs i x y is

pub get_other : {A : Type 0} (xs : List A) (i j : ℕ) (y : A) → j ≢ i → slice_get (set xs i y) j ≡ slice_get xs j
get_other [] i j y far = refl
get_other (z ∷ xs) zero zero y far = absurd (far refl)
get_other (z ∷ xs) zero (suc j) y far = refl
get_other (z ∷ xs) (suc i) zero y far = refl
get_other (z ∷ xs) (suc i) (suc j) y far = get_other xs i j y (λ e. far (ap suc e))

-- what is there already changes nothing
pub set_there : {A : Type 0} (xs : List A) (i : ℕ) (x : A) → slice_get xs i ≡ Some x → set xs i x ≡ xs
set_there xs i x is = ap (set xs i) (sym (get_or_from_slice_get xs i x x is)) ∙ set-get_or xs i x

-- what is at a place of a longer list
pub get_more : {A : Type 0} (xs : List A) (x : A) (i : ℕ) (y : A) → slice_get (xs ++ x ∷ []) i ≡ Some y → (slice_get xs i ≡ Some y) ⊎ ((i ≡ length xs) × (x ≡ y))
get_more [] x zero y is = inr (refl, same_Some _ _ is)
get_more [] x (suc i) y is = absurd (none-some y is)
get_more (z ∷ xs) x zero y is = inl is
get_more (z ∷ xs) x (suc i) y is = elim (get_more xs x i y is) [ inl before ↦ inl before | inr last ↦ inr (ap suc last.0, last.1) ]
