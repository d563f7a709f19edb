-- Policies, whole and for one switch, and what holds of each. All of this is the proxy's own rule.
use Rattle.std.specs.Prelude.{ℕ, ◌≡◌, ◌≢◌, ◌<◌, ◌≤◌, ◌^◌, ◌⊎◌, false, List, length, slice_get, All, AllPairs, count_by, Some, IfSome, IsTrue}
use Rattle.of10_model.specs.Normal.{IsNormal}
use Rattle.flowspace.specs.declared.slices.Slice.{Slice}
use Rattle.flowspace.specs.declared.rules.Rule.{Rule}
use Rattle.flowspace.specs.declared.swaps.Swap.{Swap}
use Rattle.flowspace.specs.Slices.{IsPlainSlice}
use Rattle.flowspace.specs.Rules.{IsPlainRule, is_written_by, is_own_reader, have_switch, ShareHeader, Yields}
use Rattle.flowspace.specs.Order.{HasNoLower, IsAccepted}

-- the slices, the rules and the swaps of a policy, all as they stand in its text
pub record PolicyView : Type 0 where
  pub slices : List Slice
  pub rules : List Rule
  pub swaps : List Swap

-- the slices of a policy, and of one switch the rules in rule order and the swaps
pub record SwitchView : Type 0 where
  pub slices : List Slice
  pub rules : List Rule
  pub swaps : List Swap

-- slices and rules as every policy has them: plain parts within the limits, different names, writers and readers that are slots, and no writer who is a reader too
pub record AreProper (slices : List Slice) (rules : List Rule) : Type 0 where
  pub some_slice : 1 ≤ length slices
  pub few_slices : length slices ≤ 32
  pub few_rules : length rules ≤ 2048
  pub plain_slices : All IsPlainSlice slices
  pub plain_rules : All IsPlainRule rules
  pub names_differ : AllPairs (λ s t. s.name ≢ t.name) slices
  pub writers_known : All (λ r. IfSome r.writer (λ w. w < length slices)) rules
  pub readers_known : All (λ r. r.readers < 2 ^ length slices) rules
  pub readers_apart : All (λ r. is_own_reader r ≡ false) rules
  pub few_writes : (slot : ℕ) → count_by (is_written_by slot) rules ≤ 256

-- what holds of every policy: proper parts, and rules that are accepted
pub record IsPolicy (slices : List Slice) (rules : List Rule) : Type 0 where
  pub proper : AreProper slices rules
  pub accepted : IsAccepted rules

-- what holds of every policy of a switch: proper parts, and rules that hold on a common switch and are accepted in the order in which they stand
pub record IsSwitchPolicy (slices : List Slice) (rules : List Rule) : Type 0 where
  pub proper : AreProper slices rules
  pub one_switch : AllPairs (λ a b. IsTrue (have_switch a.switch b.switch)) rules
  pub descending : AllPairs HasNoLower rules
  pub accepted : AllPairs Yields rules

-- the matches of the rules are in normal form, as each `Match` is
abbrev pub AreNormal : List Rule → Type 0
AreNormal rules = All (λ r. IsNormal r.pattern) rules

-- by their places in the file, the first of two rules stands before the second in rule order
pub record ComesBefore (rules : List Rule) (i j : ℕ) : Type 0 where
  pub earlier : Rule
  pub later : Rule
  pub at_first : slice_get rules i ≡ Some earlier
  pub at_second : slice_get rules j ≡ Some later
  pub before : (later.priority < earlier.priority) ⊎ ((later.priority ≡ earlier.priority) × (i < j))

-- and both hold on a switch and share a header, where a slice writes the second that doesn't write the first
pub record IsOverlap (rules : List Rule) (i j : ℕ) : Type 0 where
  pub places : ComesBefore rules i j
  pub share : ShareHeader places.earlier places.later
  pub slot : ℕ
  pub written : places.later.writer ≡ Some slot
  pub not_written : places.earlier.writer ≢ Some slot

-- the first overlap: the second rule of each other one comes later, or it is the same and the first comes later
pub record IsFirstOverlap (rules : List Rule) (i j : ℕ) : Type 0 where
  pub overlap : IsOverlap rules i j
  pub is_first : (k l : ℕ) → IsOverlap rules k l → ComesBefore rules j l ⊎ ((j ≡ l) × (ComesBefore rules i k ⊎ (i ≡ k)))
