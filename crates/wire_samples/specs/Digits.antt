-- The digits of texts in which bytes are written.
use Rattle.std.specs.Prelude.{ℕ, ◌==◌, not, List, filter, flat_map}
use Rattle.std.specs.Borrow.{Bor}

-- the pieces one after the other, without their blanks
abbrev pub digits_in : List (Bor (List ℕ)) → List ℕ
digits_in pieces = filter (λ c. not (c == 32)) (flat_map (λ piece. piece.now) pieces)
