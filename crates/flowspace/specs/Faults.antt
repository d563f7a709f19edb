-- Which fault of slices and rules is the first, in words of the slices and rules themselves. All of this is the proxy's own rule.
use Rattle.std.specs.Prelude.{ℕ, ◌≡◌, ◌≢◌, ◌<◌, ◌≤◌, ◌^◌, false, IsTrue, List, length, take, slice_get, All, AllPairs, Any, count_by, Some, IfSome}
use Rattle.flowspace.specs.declared.fault.What.TheVariants.{Slices, Rules, Writes}
use Rattle.flowspace.specs.declared.fault.Field.TheVariants.{Read}
use Rattle.flowspace.specs.declared.fault.PolicyFault.{PolicyFault}
use Rattle.flowspace.specs.declared.fault.PolicyFault.TheVariants.{TooMany, DuplicateSlice, UnknownSlice, Improper, Overlap}
use Rattle.flowspace.specs.declared.slices.Slice.{Slice}
use Rattle.flowspace.specs.declared.rules.Rule.{Rule}
use Rattle.flowspace.specs.Rules.{is_written_by, is_own_reader}
use Rattle.flowspace.specs.Policies.{IsFirstOverlap}

-- no more slices and rules than a policy may have
abbrev pub AreWithinLimits : List Slice → List Rule → Type 0
AreWithinLimits slices rules = (length slices ≤ 32) × (length rules ≤ 2048)

-- no two slices of one name
abbrev pub NamesDiffer : List Slice → Type 0
NamesDiffer slices = AllPairs (λ s t. s.name ≢ t.name) slices

-- a rule names slots that are there, as its writer and as its readers
pub record NamesSlots (slots : ℕ) (rule : Rule) : Type 0 where
  pub writer_known : IfSome rule.writer (λ w. w < slots)
  pub readers_known : rule.readers < 2 ^ slots

-- and its writer is not among its readers
abbrev pub IsSoundRule : ℕ → Rule → Type 0
IsSoundRule slots rule = NamesSlots slots rule × (is_own_reader rule ≡ false)

-- no slice writes more rules than it may
abbrev pub WritesFew : List Rule → Type 0
WritesFew rules = (slot : ℕ) → count_by (is_written_by slot) rules ≤ 256

-- the slice at a place has the name of an earlier one, and no slice before it has
pub record IsFirstRepeat (slices : List Slice) (place : ℕ) : Type 0 where
  pub slice : Slice
  pub is_there : slice_get slices place ≡ Some slice
  pub earlier : Any (λ s. s.name ≡ slice.name) (take place slices)
  pub is_first : NamesDiffer (take place slices)

-- the rule at a place names a slot that isn't there, and each rule before it is sound
pub record IsFirstUnknown (slots : ℕ) (rules : List Rule) (place : ℕ) : Type 0 where
  pub rule : Rule
  pub is_there : slice_get rules place ≡ Some rule
  pub unknown : NamesSlots slots rule → ⊥
  pub is_first : All (IsSoundRule slots) (take place rules)

-- the writer of the rule at a place reads it too, and each rule before it is sound
pub record IsFirstOwnReader (slots : ℕ) (rules : List Rule) (place : ℕ) : Type 0 where
  pub rule : Rule
  pub is_there : slice_get rules place ≡ Some rule
  pub known : NamesSlots slots rule
  pub own : IsTrue (is_own_reader rule)
  pub is_first : All (IsSoundRule slots) (take place rules)

-- so many rules, and more than it may, are written by a slice, and no slice before it writes too many
pub record IsFirstFull (slices : List Slice) (rules : List Rule) (count : ℕ) : Type 0 where
  pub slot : ℕ
  pub is_slot : slot < length slices
  pub counted : count_by (is_written_by slot) rules ≡ count
  pub too_many : 256 < count
  pub is_first : (k : ℕ) → k < slot → count_by (is_written_by k) rules ≤ 256

-- a fault of slices and rules, with no fault of those that come before it. These are, in order: too many slices, too many rules, a name twice, along the file a rule that isn't sound, along the slots too many written rules, and along rule order an overlap
abbrev pub IsFirstPolicyFault : List Slice → List Rule → PolicyFault → Type 0
IsFirstPolicyFault slices rules (TooMany Slices count) = (length slices ≡ count) × (32 < count)
IsFirstPolicyFault slices rules (TooMany Rules count) = (length slices ≤ 32) × (length rules ≡ count) × (2048 < count)
IsFirstPolicyFault slices rules (DuplicateSlice place) = AreWithinLimits slices rules × IsFirstRepeat slices place
IsFirstPolicyFault slices rules (UnknownSlice place) = AreWithinLimits slices rules × NamesDiffer slices × IsFirstUnknown (length slices) rules place
IsFirstPolicyFault slices rules (Improper place Read) = AreWithinLimits slices rules × NamesDiffer slices × IsFirstOwnReader (length slices) rules place
IsFirstPolicyFault slices rules (TooMany Writes count) = AreWithinLimits slices rules × NamesDiffer slices × All (IsSoundRule (length slices)) rules × IsFirstFull slices rules count
IsFirstPolicyFault slices rules (Overlap first second) = AreWithinLimits slices rules × NamesDiffer slices × All (IsSoundRule (length slices)) rules × WritesFew rules × IsFirstOverlap rules first second
IsFirstPolicyFault slices rules other = ⊥
