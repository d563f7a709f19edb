-- What connections in memory show. This proxy's own rules.
use Rattle.std.specs.Prelude.{ℕ, List, [], Option, Some, None, String}
use Rattle.std.specs.String.{string_bytes}

-- the bytes of a place, where there is one
abbrev pub place_bytes : {A : Type 0} → Option (String A) → List ℕ
place_bytes None = []
place_bytes (Some place) = string_bytes place
