-- Which booked pairs a change of policy takes away. A slice is known by its name: its slot may be another one under the new policy. All of this is this proxy's own rule.
use Rattle.std.specs.Prelude.{ℕ, ◌≡◌, ◌⊎◌, not, Bool, true, false, List, [], ◌∷◌, ◌++◌, filter, map, slice_get, Contains, Option, Some, None}
use Rattle.std.specs.List.{list_any}
use Rattle.of10_flow.specs.declared.flow_mod.FlowMod.{FlowMod}
use Rattle.flowspace.specs.declared.rules.Rule.{Rule}
use Rattle.flowspace.specs.declared.slices.Slice.{Slice}
use Rattle.flowspace.specs.Owners.{Owns}
use Rattle.flowspace.specs.Places.{covers_match}
use Rattle.flowspace.specs.Policies.{SwitchView}
use Rattle.flowspace.specs.Slices.{slot_named}
use Rattle.flow_book.specs.declared.booked.Booked.{Booked}
use Rattle.flow_book.specs.declared.state.SliceState.{SliceState}
use Rattle.policy_change.specs.Plans.{plan_from}

-- a pair stays: the slice has a slot, and writes a rule that includes the match
abbrev pub stays : List Rule → Option ℕ → Booked → Bool
stays rules None b = false
stays rules (Some slot) b = list_any (λ rule. covers_match slot true rule b.pattern) rules

-- the pairs of a slice that don't stay under the rules of the slice of the same name
abbrev pub planned_of : SwitchView → Slice → List Booked → List Booked
planned_of new s pairs = filter (λ b. not (stays new.rules (slot_named new.slices s.name) b)) pairs

-- the same of slices by their slots, each with its pairs
abbrev pub planned : SwitchView → List Slice → List (List Booked) → List Booked
planned new [] books = []
planned new (s ∷ slices) [] = []
planned new (s ∷ slices) (pairs ∷ books) = planned_of new s pairs ++ planned new slices books

-- what is booked, by slots
abbrev pub books_of : List SliceState → List (List Booked)
books_of states = map (λ state. state.book.booked) states

-- the plan: the messages for all these pairs
abbrev pub plan_of : SwitchView → List Slice → List (List Booked) → List FlowMod
plan_of new slices books = plan_from 0xff000005 (planned new slices books)

-- a match lies in one rule that the slice of a name writes
pub record LiesInOneRule (policy : SwitchView) (s : Slice) (b : Booked) : Type 0 where
  pub slot : ℕ
  pub named : slot_named policy.slices s.name ≡ Some slot
  pub owns : Owns policy.rules slot b.pattern

-- a pair is booked for a slice
pub record IsBookedFor (slices : List Slice) (states : List SliceState) (s : Slice) (b : Booked) : Type 0 where
  pub slot : ℕ
  pub state : SliceState
  pub is_slice : slice_get slices slot ≡ Some s
  pub is_state : slice_get states slot ≡ Some state
  pub booked : Contains state.book.booked b

-- each booked pair that isn't planned lies in one rule that the slice of the same name writes under the new policy
abbrev pub OthersLieInOneRule : SwitchView → List Slice → List SliceState → Type 0
OthersLieInOneRule new slices states = (s : Slice) (b : Booked) → IsBookedFor slices states s b → Contains (planned new slices (books_of states)) b ⊎ LiesInOneRule new s b
