-- Which swap a port table says. The form is this proxy's own rule.
use Rattle.std.specs.Prelude.{◌≡◌, ℕ, ◌%◌, List, Some}
use Rattle.flowspace.specs.declared.slices.Slice.{Slice}
use Rattle.flowspace.specs.declared.swaps.Swap.{Swap}
use Rattle.flowspace.specs.Slices.{slot_named}
use Rattle.policy_text.specs.Ports.{PortText}

-- its slice has the name that the table says, its slot in eight bits, and all else is as the table says
pub record IsSwapOf (slices : List Slice) (said : PortText) (swap : Swap) : Type 0 where
  pub slot : ℕ
  pub is_named : slot_named slices said.slice ≡ Some slot
  pub slice : swap.slice ≡ slot % 256
  pub switch : swap.switch ≡ said.switch
  pub shown : swap.shown ≡ said.shown
  pub physical : swap.physical ≡ said.physical
