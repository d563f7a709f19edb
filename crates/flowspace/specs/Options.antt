-- Values that may be missing.
use Rattle.std.specs.Prelude.{Bool, if◌then◌else◌, List, [], ◌∷◌, Option, Some, None}
use Rattle.std.specs.Option.{option_or}

-- the value, where the test holds
abbrev pub when : {A : Type 0} → Bool → A → Option A
when holds x = if holds then Some x else None

-- the first that is there
abbrev pub first_some : {A : Type 0} → List (Option A) → Option A
first_some [] = None
first_some (option ∷ others) = option_or option (first_some others)
