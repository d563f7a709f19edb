-- What a policy text says, from front to back. All of the form is this proxy's own rule.
use Rattle.std.specs.Prelude.{ℕ, ◌≤◌, All, length, List, Option, Some, None, Result, Ok, Err, codes, unwrap_or, if◌then◌else◌}
use Rattle.std.specs.Str.{is_utf8}
use Rattle.toml.specs.Data.{no_items, Members}
use Rattle.toml.specs.Parse.{parse_document}
use Rattle.flowspace.specs.declared.fault.PolicyFault.{PolicyFault}
use Rattle.flowspace.specs.Loading.{load_ports_of}
use Rattle.flowspace.specs.Policies.{PolicyView}
use Rattle.flowspace.specs.Rules.{IsPlainRule}
use Rattle.flowspace.specs.Slices.{IsPlainSlice}
use Rattle.flowspace.specs.Swaps.{IsPlainSwap}
use Rattle.policy_text.specs.declared.fault.Part.TheVariants as part
use Rattle.policy_text.specs.declared.fault.ReadFault.{ReadFault}
use Rattle.policy_text.specs.declared.fault.ReadFault.TheVariants.{NotToml, Refused}
use Rattle.policy_text.specs.declared.known_keys.Keys.TheVariants as keys
use Rattle.policy_text.specs.declared.values.Numbers.TheVariants.{Between}
use Rattle.of10_model.specs.Results.{◌>>=◌}
use Rattle.policy_text.specs.Reading.{SectionView, known_keys, required, optional, number, tables, some_tables}
use Rattle.policy_text.specs.Slices.{slices_from}
use Rattle.policy_text.specs.Rules.{rules_from}
use Rattle.policy_text.specs.Ports.{swaps_from}

-- the table of the whole text
abbrev pub top : Members → SectionView
top members = record { part = part.Top; index = 0; members = members }

-- the slices, the rules and the swaps of a table, in a text of a version up to the highest; from version 2 on there may be port tables
unfoldable pub parts_in : ℕ → SectionView → Result PolicyView ReadFault
parts_in highest this = do
  version ← required (number (Between 1 highest)) this (codes "version")
  known ← known_keys (keys.Top version) this
  slice_tables ← required some_tables this (codes "slice")
  rule_tables ← optional tables this (codes "rule")
  port_tables ← optional tables this (codes "port")
  slices ← slices_from 0 slice_tables
  rules ← rules_from slices 0 (unwrap_or rule_tables no_items)
  swaps ← swaps_from slices 0 (unwrap_or port_tables no_items)
  Ok (record { slices = slices; rules = rules; swaps = swaps })

-- the table that bytes are, where they are TOML in UTF-8
abbrev pub document_of : List ℕ → Option Members
document_of bytes = if is_utf8 bytes then parse_document bytes else None

-- the slices, the rules and the swaps of a text's table, where the text is one
abbrev pub parts_of : ℕ → Option Members → Result PolicyView ReadFault
parts_of highest None = Err NotToml
parts_of highest (Some members) = parts_in highest (top members)

-- what `Policy::load_ports` asks of slices, rules and swaps
pub record ArePlain (p : PolicyView) : Type 0 where
  pub some_slice : 1 ≤ length p.slices
  pub slices : All IsPlainSlice p.slices
  pub rules : All IsPlainRule p.rules
  pub swaps : All IsPlainSwap p.swaps

-- the policy that is loaded, or the fault for which it is refused
abbrev pub loaded : Result PolicyView PolicyFault → Result PolicyView ReadFault
loaded (Ok policy) = Ok policy
loaded (Err fault) = Err (Refused fault)

-- the policy that a text of a version up to the highest says, or its first fault
abbrev pub policy_up_to : ℕ → Option Members → Result PolicyView ReadFault
policy_up_to highest document = parts_of highest document >>= (λ parts. loaded (load_ports_of parts.slices parts.rules parts.swaps))

-- the highest version that `read` accepts
abbrev pub accepted : ℕ
accepted = 2

-- the policy that a text says, or its first fault
abbrev pub policy_of : Option Members → Result PolicyView ReadFault
policy_of document = policy_up_to accepted document
