-- The rules with their places in the file.
use Rattle.std.proofs.Common.{◌≡◌, ℕ, ◌+◌, ◌<◌, List, [], ◌∷◌, ◌++◌, length, get_or, take, refl, ap, arith}
use Rattle.std.proofs.lemmas.List.{take_more, length-take-le}
use Rattle.flowspace.specs.declared.rules.Rule.{Rule}
use Rattle.flowspace.specs.Loading.{filed}

filed-push : (n m : ℕ) (rs : List Rule) (r : Rule) → n + length rs ≡ m → filed n (rs ++ r ∷ []) ≡ filed n rs ++ record { place = m; rule = r } ∷ []
filed-push n m [] r e = let same : n ≡ m = omega arith in rw same refl
filed-push n m (q ∷ rs) r e = ap (λ l. record { place = n; rule = q } ∷ l) (filed-push (n + 1) m rs r (omega arith))

-- one more rule
pub filed_more : (rs : List Rule) (i : ℕ) (d : Rule) → i < length rs → filed 0 (take (i + 1) rs) ≡ filed 0 (take i rs) ++ record { place = i; rule = get_or rs i d } ∷ []
filed_more rs i d lt =
    let len : length (take i rs) ≡ i = length-take-le i rs (omega arith) in
    rw (take_more rs i d lt) (filed-push 0 i (take i rs) (get_or rs i d) (omega arith))
