-- The text that is printed for a policy. All of it is this proxy's own rule.
use Rattle.std.specs.Prelude.{ℕ, pos, ◌/◌, ◌%◌, ◌^◌, ◌==◌, ◌<◌, Bool, true, false, List, [], ◌∷◌, ◌++◌, map, slice_get, Option, Some, None, IfSome, option_map, option_and_then, codes, decimal, if◌then◌else◌}
use Rattle.toml_writer.specs.Text.{string_text}
use Rattle.toml.specs.Data.{Data, string, integer, array, Items, no_items, item}
use Rattle.toml.specs.Text.{before_item}
use Rattle.toml.specs.View.{items_of}
use Rattle.of10_model.specs.declared.pattern.Pattern.{Pattern}
use Rattle.of10_model.specs.Normal.{IsNormal}
use Rattle.address_text.specs.Texts.{hex_text, hardware_text, prefix_text}
use Rattle.flowspace.specs.declared.rules.Rule.{Rule}
use Rattle.flowspace.specs.declared.slices.Slice.{Slice}
use Rattle.flowspace.specs.declared.swaps.Swap.{Swap}
use Rattle.flowspace.specs.Policies.{PolicyView}

-- ---- fields

-- a key, and the value where the key is written
abbrev pub Entry : Type 0
Entry = List ℕ × Option Data

-- a number, left out where it is the one that is taken for granted
abbrev pub unless_default : ℕ → ℕ → Option Data
unless_default default n = if n == default then None else Some (integer (pos n))

-- the keys of a slice
abbrev pub slice_entries : Slice → List Entry
slice_entries s =
    (codes "name", Some (string s.name)) ∷ (codes "controller", Some (string s.controller)) ∷ (codes "rate", unless_default 1000 s.rate)
    ∷ (codes "burst", unless_default 1000 s.burst) ∷ (codes "quota", unless_default 1024 s.quota) ∷ []

-- the name of the slice at a slot
abbrev pub slice_name : List Slice → ℕ → Option (List ℕ)
slice_name slices slot = option_map (λ s. s.name) (slice_get slices slot)

-- the names of the slices whose bits are set, the lowest bit first
abbrev pub names_in : ℕ → List Slice → List (List ℕ)
names_in bits [] = []
names_in bits (s ∷ rest) = if bits % 2 == 1 then s.name ∷ names_in (bits / 2) rest else names_in (bits / 2) rest

-- an array of names, where there are any
abbrev pub names_array : List (List ℕ) → Option Data
names_array [] = None
names_array (name ∷ rest) = Some (array (items_of (map string (name ∷ rest))))

-- a number, where there is one
abbrev pub number_value : Option ℕ → Option Data
number_value o = option_map (λ n. integer (pos n)) o

-- a text, where there is one
abbrev pub text_value : Option (List ℕ) → Option Data
text_value o = option_map (λ s. string s) o

-- a rule's keys beside those of its match; its slices stand there by name
abbrev pub entries_beside : List Slice → Rule → List Entry
entries_beside slices r =
    (codes "switch", text_value (option_map (hex_text 16) r.switch)) ∷ (codes "priority", Some (integer (pos r.priority)))
    ∷ (codes "write", text_value (option_and_then (slice_name slices) r.writer)) ∷ (codes "read", names_array (names_in r.readers slices)) ∷ []

-- the keys of a match's constraints on the link
abbrev pub link_entries : Pattern → List Entry
link_entries m =
    (codes "in_port", number_value m.in_port) ∷ (codes "dl_src", text_value (option_map hardware_text m.dl_src))
    ∷ (codes "dl_dst", text_value (option_map hardware_text m.dl_dst)) ∷ (codes "dl_vlan", number_value m.dl_vlan)
    ∷ (codes "dl_vlan_pcp", number_value m.dl_vlan_pcp) ∷ (codes "dl_type", number_value m.dl_type) ∷ []

-- the keys of its constraints on the network and the transport
abbrev pub network_entries : Pattern → List Entry
network_entries m =
    (codes "nw_tos", number_value m.nw_tos) ∷ (codes "nw_proto", number_value m.nw_proto)
    ∷ (codes "nw_src", text_value (option_map prefix_text m.nw_src)) ∷ (codes "nw_dst", text_value (option_map prefix_text m.nw_dst))
    ∷ (codes "tp_src", number_value m.tp_src) ∷ (codes "tp_dst", number_value m.tp_dst) ∷ []

-- a port table's keys; its slice stands there by name
abbrev pub swap_entries : List Slice → Swap → List Entry
swap_entries slices w =
    (codes "slice", text_value (slice_name slices w.slice)) ∷ (codes "switch", text_value (option_map (hex_text 16) w.switch))
    ∷ (codes "shown", Some (integer (pos w.shown))) ∷ (codes "physical", Some (integer (pos w.physical))) ∷ []

-- ---- the text

-- a value on the right of `=`: a number, a text, or an array of texts on one line
abbrev mutual
  pub value_text : Data → List ℕ
  value_text (integer (pos n)) = decimal n
  value_text (string s) = string_text s
  value_text (array items) = codes "[" ++ items_text true items
  value_text d = []

  pub items_text : Bool → Items → List ℕ
  items_text is_first no_items = codes "]"
  items_text is_first (item d rest) = before_item false is_first ++ (value_text d ++ items_text false rest)

-- a line for each key that is written
unfoldable pub entry_text : Entry → List ℕ
entry_text (key, None) = []
entry_text (key, Some d) = key ++ (codes " = " ++ (value_text d ++ codes "\n"))

-- a line for each entry in turn
abbrev pub entries_text : List Entry → List ℕ
entries_text [] = []
entries_text (entry ∷ rest) = entry_text entry ++ entries_text rest

-- a slice's table, under its header
unfoldable pub slice_text : Slice → List ℕ
slice_text s = codes "\n[[slice]]\n" ++ entries_text (slice_entries s)

-- a rule's table, under its header
unfoldable pub rule_text : List Slice → Rule → List ℕ
rule_text slices r = codes "\n[[rule]]\n" ++ (entries_text (entries_beside slices r) ++ (entries_text (link_entries r.pattern) ++ entries_text (network_entries r.pattern)))

-- the tables of the slices in turn
abbrev pub slices_text : List Slice → List ℕ
slices_text [] = []
slices_text (s ∷ rest) = slice_text s ++ slices_text rest

-- the tables of the rules in turn
abbrev pub rules_text : List Slice → List Rule → List ℕ
rules_text slices [] = []
rules_text slices (r ∷ rest) = rule_text slices r ++ rules_text slices rest

-- a swap's table, under its header
unfoldable pub swap_text : List Slice → Swap → List ℕ
swap_text slices w = codes "\n[[port]]\n" ++ entries_text (swap_entries slices w)

-- the tables of the swaps in turn
abbrev pub swaps_text : List Slice → List Swap → List ℕ
swaps_text slices [] = []
swaps_text slices (w ∷ rest) = swap_text slices w ++ swaps_text slices rest

-- the lowest version of a text that has these swaps
abbrev pub needed_version : List Swap → ℕ
needed_version [] = 1
needed_version (w ∷ rest) = 2

-- the line of the version
abbrev pub version_text : List Swap → List ℕ
version_text [] = codes "version = 1\n"
version_text (w ∷ rest) = codes "version = 2\n"

-- the version, the slices, and the rules and the swaps in file order
unfoldable pub text_of : PolicyView → List ℕ
text_of p = version_text p.swaps ++ (slices_text p.slices ++ (rules_text p.slices p.rules ++ swaps_text p.slices p.swaps))

-- what holds of each rule beside being plain: its match is normal, and its numbers have 64 and 32 bits
pub record IsRuleInRange (r : Rule) : Type 0 where
  pub normal : IsNormal r.pattern
  pub switch : IfSome r.switch (λ n. n < 2 ^ 64)
  pub priority : r.priority < 2 ^ 32

-- the number of a swap's switch has 64 bits
abbrev pub IsSwapInRange : Swap → Type 0
IsSwapInRange w = IfSome w.switch (λ n. n < 2 ^ 64)
