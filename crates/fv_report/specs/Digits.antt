use Rattle.std.specs.Prelude.{ℕ, ◌≡◌, ◌<◌, ◌+◌, ◌*◌, List, [], ◌∷◌, ◌++◌, take, drop, slice_index_or, decimal}
use Rattle.hex.specs.Hex.{encode_lower}

-- the first so many of the pairs are the digits of the bytes that their places are
unfoldable pub ArePairs : ℕ → List (List ℕ) → Type 0
ArePairs count pairs = (byte : ℕ) → byte < count → slice_index_or pairs byte [] ≡ encode_lower (byte ∷ [])

-- the digits of the first so many bytes stand in front: with those of the others behind them they are the digits of all
unfoldable pub HasDigits : ℕ → List ℕ → List ℕ → Type 0
HasDigits count bytes out = take (2 * count) out ++ encode_lower (drop count bytes) ≡ encode_lower bytes

-- with one digit more behind them these are the digits of ten numbers, from the first on
unfoldable pub HasTens : ℕ → List ℕ → Type 0
HasTens first front = (digit : ℕ) → digit < 10 → front ++ (48 + digit) ∷ [] ≡ decimal (first + digit)
