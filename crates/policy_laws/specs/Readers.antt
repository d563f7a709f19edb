-- Which slices a rule names. The form is this proxy's own rule.
use Rattle.std.specs.Prelude.{◌≡◌, ◌≢◌, ℕ, ◌<◌, List, [], ◌∷◌, length, slice_index_or, Option, Some, None}
use Rattle.std.specs.List.{All, Any}
use Rattle.flowspace.specs.declared.slices.Slice.{Slice}
use Rattle.policy_text.specs.Rules.{RuleText}
use Rattle.flowspace.specs.Slices.{slot_named}

-- some of the names is that of the slice at this slot
abbrev pub IsNamedSlot : List Slice → List (List ℕ) → ℕ → Type 0
IsNamedSlot slices names slot = Any (λ name. slot_named slices name ≡ Some slot) names

-- the names that stand under `write`, where it is there, and under `read`
abbrev pub with_writer : Option (List ℕ) → List (List ℕ) → List (List ℕ)
with_writer None readers = readers
with_writer (Some writer) readers = writer ∷ readers

-- the names in a rule
abbrev pub names_of_rule : RuleText → List (List ℕ)
names_of_rule said = with_writer said.write said.read

-- some of the names is that of no slice
abbrev pub NamesNoSlice : List Slice → List (List ℕ) → Type 0
NamesNoSlice slices names = Any (λ name. slot_named slices name ≡ None) names

-- each of the names is a slice's
abbrev pub NamesSlices : List Slice → List (List ℕ) → Type 0
NamesSlices slices names = All (λ name. slot_named slices name ≢ None) names

-- two of the names are of one slot
abbrev pub NamesTwice : List Slice → List (List ℕ) → Type 0
NamesTwice slices names = (i j : ℕ) × (i < j) × (j < length names) × (slot_named slices (slice_index_or names i []) ≡ slot_named slices (slice_index_or names j []))
