-- The rules that a policy text says. All of it is this proxy's own rule.
use Rattle.std.specs.Prelude.{ℕ, zero, suc, ◌+◌, ◌%◌, ◌^◌, ◌&&◌, not, nat_eq, Bool, true, List, [], ◌∷◌, Option, Some, None, Result, Ok, Err, codes, unwrap_or, if◌then◌else◌}
use Rattle.std.specs.List.{list_any}
use Rattle.toml.specs.Data.{Data, Items, Members}
use Rattle.of10_model.specs.declared.pattern.Prefix.{Prefix}
use Rattle.of10_model.specs.declared.pattern.Pattern.{Pattern}
use Rattle.flowspace.specs.declared.fault.Field.{Field}
use Rattle.flowspace.specs.declared.fault.Field.TheVariants.{Read}
use Rattle.flowspace.specs.declared.fault.PolicyFault.TheVariants.{UnknownSlice}
use Rattle.flowspace.specs.declared.rules.Rule.{Rule}
use Rattle.flowspace.specs.declared.slices.Slice.{Slice}
use Rattle.flowspace.specs.Rules.{first_improper}
use Rattle.flowspace.specs.Slices.{slot_named}
use Rattle.policy_text.specs.declared.fault.Part.TheVariants as part
use Rattle.policy_text.specs.declared.fault.ReadFault.{ReadFault}
use Rattle.policy_text.specs.declared.fault.ReadFault.TheVariants.{Improper, Refused}
use Rattle.policy_text.specs.declared.known_keys.Keys.TheVariants as keys
use Rattle.policy_text.specs.declared.values.Numbers.TheVariants.{UpTo, InPort, Vlan, Service}
use Rattle.policy_text.specs.declared.values.Numerals.TheVariants.{Datapath, Hardware}
use Rattle.policy_text.specs.declared.values.Texts.TheVariants.{Any}
use Rattle.of10_model.specs.Results.{◌>>=◌}
use Rattle.policy_text.specs.Reading.{SectionView, known_keys, required, optional, number, numeral, addresses, text, text_list, as_table, reads}

-- ---- the match

-- the constraints on the link: where a packet came in, and its Ethernet header
pub record LinkView : Type 0 where
  pub in_port : Option ℕ
  pub dl_src : Option ℕ
  pub dl_dst : Option ℕ
  pub dl_vlan : Option ℕ
  pub dl_vlan_pcp : Option ℕ
  pub dl_type : Option ℕ

-- the constraints on the link that a table gives, each under its key
unfoldable pub link_in : SectionView → Result LinkView ReadFault
link_in this = do
  in_port ← optional (number InPort) this (codes "in_port")
  dl_src ← optional (numeral Hardware) this (codes "dl_src")
  dl_dst ← optional (numeral Hardware) this (codes "dl_dst")
  dl_vlan ← optional (number Vlan) this (codes "dl_vlan")
  dl_vlan_pcp ← optional (number (UpTo 7)) this (codes "dl_vlan_pcp")
  dl_type ← optional (number (UpTo 0xffff)) this (codes "dl_type")
  Ok (record { in_port = in_port; dl_src = dl_src; dl_dst = dl_dst; dl_vlan = dl_vlan; dl_vlan_pcp = dl_vlan_pcp; dl_type = dl_type })

-- the constraints of a rule's table, those on the link first
abbrev pub joined_pattern : LinkView → Option ℕ → Option ℕ → Option Prefix → Option Prefix → Option ℕ → Option ℕ → Pattern
joined_pattern link nw_tos nw_proto nw_src nw_dst tp_src tp_dst = record {
  in_port = link.in_port;
  dl_src = link.dl_src;
  dl_dst = link.dl_dst;
  dl_vlan = link.dl_vlan;
  dl_vlan_pcp = link.dl_vlan_pcp;
  dl_type = link.dl_type;
  nw_tos = nw_tos;
  nw_proto = nw_proto;
  nw_src = nw_src;
  nw_dst = nw_dst;
  tp_src = tp_src;
  tp_dst = tp_dst;
}

-- the constraints of a table, those on the link first
unfoldable pub pattern_in : SectionView → Result Pattern ReadFault
pattern_in this = do
  link ← link_in this
  nw_tos ← optional (number Service) this (codes "nw_tos")
  nw_proto ← optional (number (UpTo 255)) this (codes "nw_proto")
  nw_src ← optional addresses this (codes "nw_src")
  nw_dst ← optional addresses this (codes "nw_dst")
  tp_src ← optional (number (UpTo 0xffff)) this (codes "tp_src")
  tp_dst ← optional (number (UpTo 0xffff)) this (codes "tp_dst")
  Ok (joined_pattern link nw_tos nw_proto nw_src nw_dst tp_src tp_dst)

-- ---- the names

-- a slot that a rule names must be there
abbrev pub known_slot : ℕ → Option ℕ → Result ℕ ReadFault
known_slot index None = Err (Refused (UnknownSlice index))
known_slot index (Some slot) = Ok slot

-- the slot of the writer, where one is named, in eight bits. All rules are read before the slices are counted, and a slot
-- that has more bits is among so many slices that the policy is refused.
abbrev pub writer_slot : List Slice → ℕ → Option (List ℕ) → Result (Option ℕ) ReadFault
writer_slot slices index None = Ok None
writer_slot slices index (Some name) = known_slot index (slot_named slices name) >>= (λ slot. Ok (Some (slot % 256)))

-- the slots of the readers
abbrev pub slots_of : List Slice → ℕ → List (List ℕ) → Result (List ℕ) ReadFault
slots_of slices index [] = Ok []
slots_of slices index (name ∷ rest) = do
  slot ← known_slot index (slot_named slices name)
  others ← slots_of slices index rest
  Ok (slot ∷ others)

-- no slot stands twice
abbrev pub are_different : List ℕ → Bool
are_different [] = true
are_different (slot ∷ rest) = not (list_any (nat_eq slot) rest) && are_different rest

-- bit k is set where slot k is one of the slots, for each k below n
abbrev pub bits_below : ℕ → List ℕ → ℕ
bits_below zero slots = 0
bits_below (suc k) slots = if list_any (nat_eq k) slots then bits_below k slots + 2 ^ k else bits_below k slots

-- ---- the rule

-- a rule's table
abbrev pub rule_section : ℕ → Members → SectionView
rule_section index members = record { part = part.Rule; index = index; members = members }

-- a rule that has an improper field is at fault
abbrev pub no_improper : ℕ → Option Field → Result (Unit {0}) ReadFault
no_improper index None = Ok tt
no_improper index (Some field) = Err (Improper index field)

-- a rule names each reader once, and gives no field without what it needs
abbrev pub proper : ℕ → List ℕ → Pattern → Result (Unit {0}) ReadFault
proper index slots pattern = no_improper index (if are_different slots then first_improper pattern else Some Read)

-- the names of an array that may be missing
abbrev pub names_under : SectionView → List ℕ → Result (List (List ℕ)) ReadFault
names_under this key = optional text_list this key >>= (λ names. Ok (unwrap_or names []))

-- what a rule's table says, its slices by name
pub record RuleText : Type 0 where
  pub switch : Option ℕ
  pub priority : ℕ
  pub write : Option (List ℕ)
  pub read : List (List ℕ)
  pub pattern : Pattern

-- what a table says, key by key
unfoldable pub rule_text_in : SectionView → Result RuleText ReadFault
rule_text_in this = do
  known ← known_keys keys.Rule this
  switch ← optional (numeral Datapath) this (codes "switch")
  priority ← required (number (UpTo 0xffffffff)) this (codes "priority")
  write ← optional (text Any) this (codes "write")
  read ← names_under this (codes "read")
  pattern ← pattern_in this
  Ok (record { switch = switch; priority = priority; write = write; read = read; pattern = pattern })

-- the same with slots for names
unfoldable pub rule_from : List Slice → ℕ → RuleText → Result Rule ReadFault
rule_from slices index said = do
  writer ← writer_slot slices index said.write
  slots ← slots_of slices index said.read
  fits ← proper index slots said.pattern
  Ok (record { switch = said.switch; priority = said.priority; pattern = said.pattern; writer = writer; readers = bits_below 32 slots })

-- the rule of a table
abbrev pub rule_in : List Slice → SectionView → Result Rule ReadFault
rule_in slices this = rule_text_in this >>= rule_from slices this.index

-- the rule of an item; one that is no table is a fault of the array
abbrev pub rule_of : List Slice → ℕ → Data → Result Rule ReadFault
rule_of slices index d = as_table (λ members. rule_in slices (rule_section index members)) (codes "rule") d

-- the rules of the items from an index on
abbrev pub rules_from : List Slice → ℕ → Items → Result (List Rule) ReadFault
rules_from slices index items = reads (rule_of slices) index items
