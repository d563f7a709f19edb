-- The slices that a policy text says. All of it is this proxy's own rule.
use Rattle.std.specs.Prelude.{ℕ, List, Result, Ok, codes, unwrap_or}
use Rattle.toml.specs.Data.{Data, Items, Members}
use Rattle.flowspace.specs.declared.slices.Slice.{Slice}
use Rattle.policy_text.specs.declared.fault.Part.TheVariants as part
use Rattle.policy_text.specs.declared.fault.ReadFault.{ReadFault}
use Rattle.policy_text.specs.declared.known_keys.Keys.TheVariants as keys
use Rattle.policy_text.specs.declared.values.Numbers.TheVariants.{UpTo, Between}
use Rattle.policy_text.specs.declared.values.Texts.TheVariants.{Name, Controller}
use Rattle.of10_model.specs.Results.{◌>>=◌}
use Rattle.policy_text.specs.Reading.{SectionView, known_keys, required, optional, number, text, as_table, reads}

-- a slice's table
abbrev pub slice_section : ℕ → Members → SectionView
slice_section index members = record { part = part.Slice; index = index; members = members }

-- the slice of a table
unfoldable pub slice_of_table : SectionView → Result Slice ReadFault
slice_of_table this = do
  known ← known_keys keys.Slice this
  name ← required (text Name) this (codes "name")
  controller ← required (text Controller) this (codes "controller")
  rate ← optional (number (Between 1 1000000)) this (codes "rate")
  burst ← optional (number (Between 1 1000000)) this (codes "burst")
  quota ← optional (number (UpTo 4096)) this (codes "quota")
  Ok (record { name = name; controller = controller; rate = unwrap_or rate 1000; burst = unwrap_or burst 1000; quota = unwrap_or quota 1024 })

-- the slice of an item; one that is no table is a fault of the array
abbrev pub slice_of : ℕ → Data → Result Slice ReadFault
slice_of index d = as_table (λ members. slice_of_table (slice_section index members)) (codes "slice") d

-- the slices of the items from an index on
abbrev pub slices_from : ℕ → Items → Result (List Slice) ReadFault
slices_from index items = reads slice_of index items
