-- Lists by their places, and tests.
use Rattle.std.proofs.Common.{◌≡◌, ℕ, ltb, ◌&&◌, Bool, true, false, List, ◌++◌, length, take, drop, slice_get, refl, ap, ◌∙◌, Some, append-nil, arith}
use Rattle.std.proofs.lemmas.Bool.{lt-ltb, ltb-true}
use Rattle.std.proofs.lemmas.List.{take_all, drop_all}
use Rattle.std.proofs.lemmas.Option.{slice_get_within}
use Rattle.switch_side.proofs.Told.{has_item}

-- a place within a list has an element
pub there : {A : Type 0} (xs : List A) (i : ℕ) → ltb i (length xs) ≡ true → (x : A) × (slice_get xs i ≡ Some x)
there xs i is = has_item xs i (ltb-true i (length xs) is)

pub within : {A : Type 0} (xs : List A) (i : ℕ) (x : A) → slice_get xs i ≡ Some x → ltb i (length xs) ≡ true
within xs i x is = lt-ltb i (length xs) (slice_get_within xs i x is)

pub both_same : (b : Bool) → (b && b) ≡ b
both_same true = refl
both_same false = refl

-- a list in whose place as many elements are written is these
pub written_back : {A : Type 0} (whole now : List A) (n : ℕ) → length now ≡ length whole → n ≡ length whole → take n (now ++ drop (length now) whole) ≡ now
written_back whole now n same count =
    ap (λ rest. take n (now ++ rest)) (drop_all (length now) whole (omega (arith, same)))
    ∙ ap (take n) (append-nil now)
    ∙ take_all n now (omega (arith, same, count))
