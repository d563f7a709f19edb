-- The port tables of a policy text, each a swap of two port numbers for a slice. All of it is this proxy's own rule.
use Rattle.std.specs.Prelude.{ℕ, ◌%◌, List, Option, Some, None, Result, Ok, Err, codes}
use Rattle.toml.specs.Data.{Data, Items, Members}
use Rattle.flowspace.specs.declared.fault.PolicyFault.TheVariants.{UnknownPortSlice}
use Rattle.flowspace.specs.declared.slices.Slice.{Slice}
use Rattle.flowspace.specs.declared.swaps.Swap.{Swap}
use Rattle.flowspace.specs.Slices.{slot_named}
use Rattle.policy_text.specs.declared.fault.Part.TheVariants as part
use Rattle.policy_text.specs.declared.fault.ReadFault.{ReadFault}
use Rattle.policy_text.specs.declared.fault.ReadFault.TheVariants.{Refused}
use Rattle.policy_text.specs.declared.known_keys.Keys.TheVariants as keys
use Rattle.policy_text.specs.declared.values.Numbers.TheVariants.{UpTo}
use Rattle.policy_text.specs.declared.values.Numerals.TheVariants.{Datapath}
use Rattle.policy_text.specs.declared.values.Texts.TheVariants.{Any}
use Rattle.of10_model.specs.Results.{◌>>=◌}
use Rattle.policy_text.specs.Reading.{SectionView, known_keys, required, optional, number, numeral, text, as_table, reads}

-- a port table
abbrev pub port_section : ℕ → Members → SectionView
port_section index members = record { part = part.Port; index = index; members = members }

-- what a port table says, its slice by name
pub record PortText : Type 0 where
  pub slice : List ℕ
  pub switch : Option ℕ
  pub shown : ℕ
  pub physical : ℕ

-- what a table says, key by key; its numbers are those of physical ports (OpenFlow 1.0.0, section 5.2.1)
unfoldable pub port_text_in : SectionView → Result PortText ReadFault
port_text_in this = do
  known ← known_keys keys.Port this
  slice ← required (text Any) this (codes "slice")
  switch ← optional (numeral Datapath) this (codes "switch")
  shown ← required (number (UpTo 0xff00)) this (codes "shown")
  physical ← required (number (UpTo 0xff00)) this (codes "physical")
  Ok (record { slice = slice; switch = switch; shown = shown; physical = physical })

-- the slot of a slice that a port table names, in eight bits; it must be there. A slot that has more bits is among so many slices
-- that the policy is refused.
abbrev pub port_slot : ℕ → Option ℕ → Result ℕ ReadFault
port_slot index None = Err (Refused (UnknownPortSlice index))
port_slot index (Some slot) = Ok (slot % 256)

-- the same with the slot for the name
unfoldable pub swap_from : List Slice → ℕ → PortText → Result Swap ReadFault
swap_from slices index said = do
  slot ← port_slot index (slot_named slices said.slice)
  Ok (record { slice = slot; switch = said.switch; shown = said.shown; physical = said.physical })

-- the swap of a table
abbrev pub swap_in : List Slice → SectionView → Result Swap ReadFault
swap_in slices this = port_text_in this >>= swap_from slices this.index

-- the swap of an item; one that is no table is a fault of the array
abbrev pub swap_of : List Slice → ℕ → Data → Result Swap ReadFault
swap_of slices index d = as_table (λ members. swap_in slices (port_section index members)) (codes "port") d

-- the swaps of the items from an index on
abbrev pub swaps_from : List Slice → ℕ → Items → Result (List Swap) ReadFault
swaps_from slices index items = reads (swap_of slices) index items
