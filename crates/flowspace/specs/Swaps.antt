-- Port numbers that are exchanged for a slice: where a swap holds, the slice sees its physical port under the number that is shown, and the port of that number under the physical one. All of this is the proxy's own rule.
use Rattle.std.specs.Prelude.{ℕ, ◌≡◌, ◌≤◌, ◌<◌, ◌==◌, ◌&&◌, ◌||◌, Bool, false, if◌then◌else◌, List, [], ◌∷◌, length, take, slice_get, map, filter, All, AllPairs, Any, IsTrue, Some, unwrap_or}
use Rattle.std.specs.BTreeMap.{BTreeMap, get}
use Rattle.std.specs.Ordering.{nat_cmp}
use Rattle.flowspace.specs.declared.fault.What.TheVariants.{Swaps}
use Rattle.flowspace.specs.declared.fault.PolicyFault.{PolicyFault}
use Rattle.flowspace.specs.declared.fault.PolicyFault.TheVariants.{TooMany, UnknownPortSlice, PortTwice}
use Rattle.flowspace.specs.declared.swaps.Swap.{Swap}
use Rattle.flowspace.specs.Rules.{names_switch, have_switch}

-- ---- the swaps of a slice on a switch

-- a swap holds on a switch where its own switch is missing or is that one
abbrev pub holds_swap : ℕ → Swap → Bool
holds_swap datapath swap = names_switch swap.switch datapath

-- the swaps that hold on a switch, as they stand in the file
abbrev pub swaps_on : ℕ → List Swap → List Swap
swaps_on datapath swaps = filter (holds_swap datapath) swaps

-- a swap is one of the slice at a slot
abbrev pub is_swap_of : ℕ → Swap → Bool
is_swap_of slot swap = swap.slice == slot

-- pairs of numbers: the one that is shown, and the physical one
abbrev pub Pairs : Type 0
Pairs = List (ℕ × ℕ)

abbrev pub numbers_of : Swap → ℕ × ℕ
numbers_of swap = (swap.shown, swap.physical)

-- the pairs that a slice's swaps name, as they stand in the file
abbrev pub pairs_of : List Swap → ℕ → Pairs
pairs_of swaps slot = map numbers_of (filter (is_swap_of slot) swaps)

-- the other number of the pair that names a port, and the port itself where none does
abbrev pub swapped : Pairs → ℕ → ℕ
swapped [] port = port
swapped (pair ∷ others) port = if port == pair.0 then pair.1 else if port == pair.1 then pair.0 else swapped others port

-- a map from each number that pairs name to the other one
abbrev pub IsTurnOf : Pairs → BTreeMap ℕ ℕ → Type 0
IsTurnOf pairs turn = (port : ℕ) → unwrap_or (get nat_cmp turn port) port ≡ swapped pairs port

-- this for each slice, by its slot
abbrev pub AreTurns : List Swap → List (BTreeMap ℕ ℕ) → Type 0
AreTurns swaps turns = (slot : ℕ) (turn : BTreeMap ℕ ℕ) → slice_get turns slot ≡ Some turn → IsTurnOf (pairs_of swaps slot) turn

-- ---- which swaps a policy may have

-- both numbers are those of physical ports (OpenFlow 1.0.0, section 5.2.1: OFPP_MAX)
pub record IsPlainSwap (swap : Swap) : Type 0 where
  pub shown_limit : swap.shown ≤ 0xff00
  pub physical_limit : swap.physical ≤ 0xff00

-- a swap names a number
abbrev pub names_number : ℕ → Swap → Bool
names_number number swap = swap.shown == number || swap.physical == number

-- two swaps of one slice hold on a common switch, and a number is named by both
abbrev pub share_number : Swap → Swap → Bool
share_number earlier later = (earlier.slice == later.slice && have_switch earlier.switch later.switch) && (names_number later.shown earlier || names_number later.physical earlier)

-- swaps as every policy has them: plain ones, no more than its limit, of slices that are there, and no number of a slice named twice on a switch
pub record AreSwaps (slots : ℕ) (swaps : List Swap) : Type 0 where
  pub plain : All IsPlainSwap swaps
  pub few : length swaps ≤ 1024
  pub slices_known : All (λ w. w.slice < slots) swaps
  pub apart : AllPairs (λ earlier later. share_number earlier later ≡ false) swaps

-- ---- the first fault, in words of the swaps themselves

-- the swap at a place names a slot that isn't there, and no swap before it does
pub record IsFirstUnknownSwap (slots : ℕ) (swaps : List Swap) (place : ℕ) : Type 0 where
  pub swap : Swap
  pub is_there : slice_get swaps place ≡ Some swap
  pub unknown : slots ≤ swap.slice
  pub is_first : All (λ w. w.slice < slots) (take place swaps)

-- the swap at a place shares a number with an earlier one, and no swap before it does
pub record IsFirstTwice (swaps : List Swap) (place : ℕ) : Type 0 where
  pub swap : Swap
  pub is_there : slice_get swaps place ≡ Some swap
  pub twice : Any (λ earlier. IsTrue (share_number earlier swap)) (take place swaps)
  pub is_first : AllPairs (λ earlier later. share_number earlier later ≡ false) (take place swaps)

-- a fault of swaps, with no fault of those that come before it: along the file a slice that isn't there, too many swaps, and along the file a number of a slice named twice
abbrev pub IsFirstSwapFault : ℕ → List Swap → PolicyFault → Type 0
IsFirstSwapFault slots swaps (UnknownPortSlice place) = IsFirstUnknownSwap slots swaps place
IsFirstSwapFault slots swaps (TooMany Swaps count) = All (λ w. w.slice < slots) swaps × (length swaps ≡ count) × (1024 < count)
IsFirstSwapFault slots swaps (PortTwice place) = All (λ w. w.slice < slots) swaps × (length swaps ≤ 1024) × IsFirstTwice swaps place
IsFirstSwapFault slots swaps other = ⊥
