-- Links by their addresses. This proxy's own rules.
use Rattle.std.specs.Prelude.{ℕ, ◌+◌, List, [], ◌∷◌, Option, Some, None, if◌then◌else◌}
use Rattle.std.specs.Str.{bytes_eq}
use Rattle.std.specs.String.{string_bytes}
use Rattle.fv_live.specs.declared.links.Link.{Link}

-- where the first link to an address stands, or how many links there are
abbrev pub place_of_link : {S K : Type 0} → List (Link S K) → List ℕ → ℕ
place_of_link [] to = 0
place_of_link (link ∷ others) to = if bytes_eq (string_bytes link.address) to then 0 else place_of_link others to + 1

-- the first link to an address
abbrev pub first_link : {S K : Type 0} → List (Link S K) → List ℕ → Option (Link S K)
first_link [] to = None
first_link (link ∷ others) to = if bytes_eq (string_bytes link.address) to then Some link else first_link others to

-- the links without the first one to an address
abbrev pub without_link : {S K : Type 0} → List (Link S K) → List ℕ → List (Link S K)
without_link [] to = []
without_link (link ∷ others) to = if bytes_eq (string_bytes link.address) to then others else link ∷ without_link others to
