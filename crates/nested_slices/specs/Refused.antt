-- Which divisions are refused, and what the others make. All of this is the proxy's own rule.
use Rattle.std.specs.Prelude.{ℕ, ◌≡◌, ◌≤◌, ◌⊎◌, ◌||◌, nat_lt, is_none, Bool, List, [], ◌∷◌, length, sum_by, position, slice_get, Option, Some, None, option_map, option_and_then, Result, Ok, Err}
use Rattle.of10_model.specs.Results.{Answers}
use Rattle.flowspace.specs.declared.fault.What.TheVariants.{Slices, Rules, Writes}
use Rattle.flowspace.specs.declared.fault.PolicyFault.{PolicyFault}
use Rattle.flowspace.specs.declared.fault.PolicyFault.TheVariants.{TooMany, DuplicateSlice, Memory as OutOfMemory}
use Rattle.flowspace.specs.declared.slices.Slice.{Slice}
use Rattle.flowspace.specs.declared.rules.Rule.{Rule}
use Rattle.flowspace.specs.Options.{when, first_some}
use Rattle.flowspace.specs.Policies.{PolicyView}
use Rattle.flowspace.specs.Loading.{load_of}
use Rattle.nested_slices.specs.declared.fault.NestFault.{NestFault}
use Rattle.nested_slices.specs.declared.fault.NestFault.TheVariants.{Swaps, Reader, Rate, Burst, Quota, Refused, Memory}
use Rattle.nested_slices.specs.declared.shares.Shares.{Shares}
use Rattle.nested_slices.specs.Flat.{flat}

-- ---- what the inner slices take together

abbrev pub shares_of : List Slice → Shares
shares_of slices = record { rate = sum_by (λ s. s.rate) slices; burst = sum_by (λ s. s.burst) slices; quota = sum_by (λ s. s.quota) slices }

-- no more than the holder has
pub record AreWithin (total : Shares) (holder : Slice) : Type 0 where
  pub rates : total.rate ≤ holder.rate
  pub bursts : total.burst ≤ holder.burst
  pub quotas : total.quota ≤ holder.quota

-- ---- faults of a division, in their order

-- a policy exchanges port numbers for a slice
abbrev pub has_swaps : PolicyView → Bool
has_swaps policy = nat_lt 0 (length policy.swaps)

-- the first rule in the file that no slice writes, by its place
abbrev pub unwritten : List Rule → Option ℕ
unwritten rules = position (λ q. is_none q.writer) rules

-- a total is more than the limit
abbrev pub passes : (ℕ → NestFault) → ℕ → ℕ → Option NestFault
passes fault limit total = when (nat_lt limit total) (fault total)

abbrev pub share_fault : Shares → Slice → Option NestFault
share_fault total holder = first_some (passes Rate holder.rate total.rate ∷ passes Burst holder.burst total.burst ∷ passes Quota holder.quota total.quota ∷ [])

-- exchanged port numbers, else an inner rule that no slice writes, else more of rate, burst or quota than the holder of the slot has
abbrev pub early_fault : PolicyView → ℕ → PolicyView → Option NestFault
early_fault outer slot inner =
    first_some (when (has_swaps outer || has_swaps inner) Swaps ∷ option_map Reader (unwritten inner.rules) ∷ option_and_then (share_fault (shares_of inner.slices)) (slice_get outer.slices slot) ∷ [])

-- ---- what comes of a division

-- a policy, or its fault reported as that of the flat policy
abbrev pub told_flat : Result PolicyView PolicyFault → Result PolicyView NestFault
told_flat (Ok policy) = Ok policy
told_flat (Err fault) = Err (Refused fault)

-- the same of what `load` answers, where out of memory is a fault of its own
abbrev pub told_fault : PolicyFault → NestFault
told_fault OutOfMemory = Memory
told_fault fault = Refused fault

-- the flat policy, or the first fault: one of those above, or that for which the flat slices and rules make no policy
unfoldable pub flatten_of : PolicyView → ℕ → PolicyView → Result PolicyView NestFault
flatten_of outer slot inner = elim (early_fault outer slot inner) [
  | None ↦ told_flat (load_of (flat outer slot inner).slices (flat outer slot inner).rules)
  | Some fault ↦ Err fault
]

-- a call answers what it should, or out of memory
abbrev pub GivesFlat : {A : Type 0} → Result A NestFault → Result A NestFault → Type 0
GivesFlat called said = Answers (λ fault told. (fault ≡ Memory) ⊎ (told ≡ Err fault)) (λ x. x) called said

-- a flat policy is refused for its number of slices or of rules, for what one slice writes, or for a name twice, and for nothing else
abbrev pub IsFlatFault : PolicyFault → Type 0
IsFlatFault (DuplicateSlice place) = Unit {0}
IsFlatFault (TooMany Slices count) = Unit {0}
IsFlatFault (TooMany Rules count) = Unit {0}
IsFlatFault (TooMany Writes count) = Unit {0}
IsFlatFault other = ⊥

abbrev pub IsNestFault : NestFault → Type 0
IsNestFault (Refused fault) = IsFlatFault fault
IsNestFault other = Unit {0}
