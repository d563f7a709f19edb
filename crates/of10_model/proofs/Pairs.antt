-- Facts of each two elements of a list, the first of which stands before the second.
use Rattle.std.proofs.Common.{zero, suc, List, [], ◌∷◌, All, AllPairs, arith}

pub AllPairs-nil : {A : Type 0} (R : A → A → Type 0) → AllPairs R []
AllPairs-nil R = λ i j d lt long. absurd (omega arith)

pub AllPairs-head : {A : Type 0} (R : A → A → Type 0) (x : A) (xs : List A) → AllPairs R (x ∷ xs) → All (R x) xs
AllPairs-head R x xs h = λ k d lt. h zero (suc k) d (omega arith) (omega arith)

pub AllPairs-tail : {A : Type 0} (R : A → A → Type 0) (x : A) (xs : List A) → AllPairs R (x ∷ xs) → AllPairs R xs
AllPairs-tail R x xs h = λ i j d lt long. h (suc i) (suc j) d (omega arith) (omega arith)
