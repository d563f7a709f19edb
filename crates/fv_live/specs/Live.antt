-- What calls on the outside of a live proxy say of what is shown. This proxy's own rules.
use Rattle.std.specs.Prelude.{ℕ, ◌≡◌, ◌+◌, List, [], ◌∷◌, ◌++◌, Option, Some, None}

-- these bytes were moved from the front of what was left, where it is shown
abbrev pub Moved : Option (List ℕ) → List ℕ → Option (List ℕ) → Type 0
Moved None bytes rest = rest ≡ None
Moved (Some left) bytes rest = (later : List ℕ) × (left ≡ bytes ++ later) × (rest ≡ Some later)

-- nothing is left, where it is shown
abbrev pub IsUsedUp : Option (List ℕ) → Type 0
IsUsedUp None = Unit {0}
IsUsedUp (Some left) = left ≡ []

-- the timestamp that a clock answers next
abbrev pub next_moment : List ℕ → ℕ
next_moment [] = 0
next_moment (moment ∷ later) = moment

-- the timestamps that it answers after that: the last one stays
abbrev pub moments_after : List ℕ → List ℕ
moments_after [] = []
moments_after (moment ∷ []) = moment ∷ []
moments_after (moment ∷ next ∷ later) = next ∷ later

-- the clock was asked, and answered these timestamps in this order, where they are shown
abbrev pub WasAsked : Option (List ℕ) → List ℕ → Option (List ℕ) → Type 0
WasAsked None answers rest = rest ≡ None
WasAsked (Some coming) [] rest = rest ≡ Some coming
WasAsked (Some coming) (answer ∷ answers) rest = (answer ≡ next_moment coming) × WasAsked (Some (moments_after coming)) answers rest

-- a number that is shown, and so many more
abbrev pub count_more : Option ℕ → ℕ → Option ℕ
count_more None more = None
count_more (Some n) more = Some (n + more)
