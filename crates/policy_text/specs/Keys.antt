-- The keys of a table of a policy text: which it may have and which it must, and of what form their values are. All of it is this proxy's own rule.
use Rattle.std.specs.Prelude.{◌≡◌, ◌⊎◌, ℕ, ◌||◌, Bool, true, false, if◌then◌else◌, bytes_eq, is_some, List, codes}
use Rattle.std.specs.Ordering.{nat_cmp, is_lt}
use Rattle.std.specs.Cmp.Lexicographic.{slice_cmp}
use Rattle.toml.specs.Data.{Data, Members, no_members, member}
use Rattle.policy_text.specs.declared.fault.Part.{Part}
use Rattle.policy_text.specs.declared.fault.Part.TheVariants.{Top, Slice, Rule, Port}
use Rattle.policy_text.specs.declared.known_keys.Keys.{Keys}
use Rattle.policy_text.specs.declared.values.Numbers.TheVariants as numbers
use Rattle.policy_text.specs.declared.values.Numbers.TheVariants.{UpTo, Between, Vlan, Service}
use Rattle.policy_text.specs.declared.values.Numerals.TheVariants.{Datapath, Hardware}
use Rattle.policy_text.specs.declared.values.Texts.TheVariants.{Name, Controller, Any}
use Rattle.policy_text.specs.Reading.{is_known_key, number, numeral, addresses, text, text_list, tables, some_tables}

-- ---- keys

-- a key of a table
abbrev pub IsKey : Members → List ℕ → Type 0
IsKey no_members key = ⊥
IsKey (member k d rest) key = (k ≡ key) ⊎ IsKey rest key

-- each key is one that such a table may have
abbrev pub AreKnown : Keys → Members → Type 0
AreKnown kind members = (key : List ℕ) → IsKey members key → is_known_key kind key ≡ true

-- a key that such a table may not have, and no such key is below it, byte by byte
pub record IsLeastUnknown (kind : Keys) (members : Members) (key : List ℕ) : Type 0 where
  pub is_there : IsKey members key
  pub unknown : is_known_key kind key ≡ false
  pub least : (other : List ℕ) → IsKey members other → is_known_key kind other ≡ false → is_lt (slice_cmp nat_cmp other key) ≡ false

-- ---- keys that are needed, and forms

-- a key that such a table must have
abbrev pub is_needed : Part → List ℕ → Bool
is_needed Top key = bytes_eq key (codes "version") || bytes_eq key (codes "slice")
is_needed Slice key = bytes_eq key (codes "name") || bytes_eq key (codes "controller")
is_needed Rule key = bytes_eq key (codes "priority")
is_needed Port key = bytes_eq key (codes "slice") || bytes_eq key (codes "shown") || bytes_eq key (codes "physical")

-- a value of the form that the whole text has under a key
abbrev pub has_top_form : List ℕ → Data → Bool
has_top_form key d =
    if bytes_eq key (codes "version") then is_some (number (Between 1 2) d)
    else if bytes_eq key (codes "slice") then is_some (some_tables d)
    else is_some (tables d)

-- a value of the form that a slice has under a key
abbrev pub has_slice_form : List ℕ → Data → Bool
has_slice_form key d =
    if bytes_eq key (codes "name") then is_some (text Name d)
    else if bytes_eq key (codes "controller") then is_some (text Controller d)
    else if bytes_eq key (codes "quota") then is_some (number (UpTo 4096) d)
    else is_some (number (Between 1 1000000) d)

-- a value of the form that a rule has under a key of its match
abbrev pub has_match_form : List ℕ → Data → Bool
has_match_form key d =
    if bytes_eq key (codes "in_port") then is_some (number numbers.InPort d)
    else if bytes_eq key (codes "dl_src") || bytes_eq key (codes "dl_dst") then is_some (numeral Hardware d)
    else if bytes_eq key (codes "dl_vlan") then is_some (number Vlan d)
    else if bytes_eq key (codes "dl_vlan_pcp") then is_some (number (UpTo 7) d)
    else if bytes_eq key (codes "nw_tos") then is_some (number Service d)
    else if bytes_eq key (codes "nw_proto") then is_some (number (UpTo 255) d)
    else if bytes_eq key (codes "nw_src") || bytes_eq key (codes "nw_dst") then is_some (addresses d)
    else is_some (number (UpTo 0xffff) d)

-- a value of the form that a rule has under a key
abbrev pub has_rule_form : List ℕ → Data → Bool
has_rule_form key d =
    if bytes_eq key (codes "switch") then is_some (numeral Datapath d)
    else if bytes_eq key (codes "priority") then is_some (number (UpTo 0xffffffff) d)
    else if bytes_eq key (codes "write") then is_some (text Any d)
    else if bytes_eq key (codes "read") then is_some (text_list d)
    else has_match_form key d

-- a value of the form that a port table has under a key
abbrev pub has_port_form : List ℕ → Data → Bool
has_port_form key d =
    if bytes_eq key (codes "slice") then is_some (text Any d)
    else if bytes_eq key (codes "switch") then is_some (numeral Datapath d)
    else is_some (number (UpTo 0xff00) d)

-- a value of the form that such a table has under a key
abbrev pub has_form : Part → List ℕ → Data → Bool
has_form Top key d = has_top_form key d
has_form Slice key d = has_slice_form key d
has_form Rule key d = has_rule_form key d
has_form Port key d = has_port_form key d
