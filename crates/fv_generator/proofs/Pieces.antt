-- Lists put together.
use Rattle.std.proofs.Common.{ℕ, ◌≡◌, List, ◌++◌, sym}
use Rattle.std.specs.Prelude.{take, drop}
use Rattle.std.proofs.lemmas.List.{take-append-drop}

-- a list is what it begins with and what follows
pub joined : (n : ℕ) (front back out : List ℕ) → take n out ≡ front → drop n out ≡ back → out ≡ front ++ back
joined n front back out begins follows = rw (← begins, ← follows) (sym (take-append-drop n out))
