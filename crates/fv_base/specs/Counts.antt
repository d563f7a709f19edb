-- Counts of faults by name: by path, by place or by address. This proxy's own rules.
use Rattle.std.specs.Prelude.{ℕ, List, [], ◌∷◌, ◌+◌, ◌-◌, ◌^◌, Bool, false, if◌then◌else◌, not, ◌||◌, min}
use Rattle.std.specs.Str.{bytes_eq}
use Rattle.std.specs.String.{string_bytes}
use Rattle.fv_base.specs.declared.counts.Count.{Count}
use Rattle.fv_base.specs.declared.counts.Counts.{Counts}

-- a count after one fault more; it stays at the last value of a u64
abbrev pub one_more : ℕ → ℕ
one_more count = min (count + 1) (2 ^ 64 - 1)

-- where the first count of a name stands, or how many counts there are
abbrev pub count_place : List Count → List ℕ → ℕ
count_place [] name = 0
count_place (count ∷ others) name = if bytes_eq (string_bytes count.name) name then 0 else count_place others name + 1

-- one of the counts is of this name
abbrev pub has_count : List Count → List ℕ → Bool
has_count [] name = false
has_count (count ∷ others) name = bytes_eq (string_bytes count.name) name || has_count others name

-- the first count of a name, or that of the names without one
abbrev pub faults_at : ℕ → List Count → List ℕ → ℕ
faults_at elsewhere [] name = elsewhere
faults_at elsewhere (count ∷ others) name = if bytes_eq (string_bytes count.name) name then count.faults else faults_at elsewhere others name

-- the name has a count of its own
abbrev pub is_declared : Counts → List ℕ → Bool
is_declared counts name = has_count counts.declared.items name

-- the count of a name
abbrev pub count_at : Counts → List ℕ → ℕ
count_at counts name = faults_at counts.elsewhere counts.declared.items name

-- two names have one count: they are the same, or neither is declared
abbrev pub share_count : Counts → List ℕ → List ℕ → Bool
share_count counts name at = bytes_eq name at || not (is_declared counts name || is_declared counts at)

-- the count of a name after one fault more of another, or of itself
abbrev pub raised_at : Counts → List ℕ → List ℕ → ℕ
raised_at counts name at = if share_count counts name at then one_more (count_at counts at) else count_at counts at
