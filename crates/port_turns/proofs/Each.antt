-- A list whose elements are changed one after another.
use Rattle.std.proofs.Common.{◌≡◌, ℕ, ◌+◌, ◌<◌, List, ◌++◌, map, length, take, drop, set, get_or, ap, ◌∙◌, arith}
use Rattle.std.proofs.lemmas.List.{get_or_default}
use Rattle.std.proofs.lemmas.List.Edits.{map_over_more}

-- the first so many are changed, and then the next
pub map_over_set : {X : Type 0} (f : X → X) (xs ys : List X) (i : ℕ) (d new : X) → i < length xs → length ys ≡ length xs → ys ≡ map f (take i xs) ++ drop i xs → new ≡ f (get_or ys i d)
    → set ys i new ≡ map f (take (i + 1) xs) ++ drop (i + 1) xs
map_over_set f xs ys i d new lt same is value = ap (set ys i) value ∙ map_over_more f xs ys i (get_or ys i d) lt is (get_or_default ys i d (get_or ys i d) (omega (arith, lt, same)))
