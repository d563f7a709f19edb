-- The tables that are printed for slices, rules and swaps are read as them.
use Rattle.std.proofs.Common.{◌≡◌, ◌≢◌, inl, inr, ℕ, suc, ◌%◌, ◌^◌, ◌<◌, ◌≤◌, ◌==◌, Bool, true, le-leb, eq-eqb, eqb-true, List, [], ◌∷◌, ◌++◌, length, map, get_or, AllPairs, Option, Some, None, IfSome, option_map, option_and_then, unwrap_or, Result, Ok, codes, refl, sym, ap, ◌∙◌, arith}
use Rattle.std.specs.List.{AllByRecursion}
use Rattle.std.proofs.lemmas.Bool.{cases_Bool}
use Rattle.toml.specs.Data.{Data, string}
use Rattle.toml.specs.View.{items_of}
use Rattle.of10_model.specs.declared.pattern.Prefix.{Prefix}
use Rattle.of10_model.specs.Normal.{IsBelow, IsService, IsPrefix}
use Rattle.flowspace.specs.declared.rules.Rule.{Rule}
use Rattle.flowspace.specs.declared.slices.Slice.{Slice}
use Rattle.flowspace.specs.declared.swaps.Swap.{Swap}
use Rattle.flowspace.specs.Rules.{IsInPort, IsVlan, IsPlainRule}
use Rattle.flowspace.specs.Slices.{IsPlainSlice}
use Rattle.flowspace.specs.Swaps.{IsPlainSwap}
use Rattle.flowspace.proofs.Improper.{none_improper}
use Rattle.flowspace.proofs.Naming.{name_from, controller_from}
use Rattle.flowspace.proofs.Owning.{is_in_port-IsInPort}
use Rattle.policy_text.specs.declared.fault.Part.{Part}
use Rattle.policy_text.specs.declared.fault.Part.TheVariants as part
use Rattle.policy_text.specs.declared.fault.Place.{Place}
use Rattle.policy_text.specs.declared.fault.ReadFault.{ReadFault}
use Rattle.policy_text.specs.declared.known_keys.Keys.{Keys}
use Rattle.policy_text.specs.declared.known_keys.Keys.TheVariants as keys
use Rattle.policy_text.specs.declared.values.Numbers.{Numbers}
use Rattle.policy_text.specs.declared.values.Numbers.TheVariants.{UpTo, Between, InPort, Vlan, Service}
use Rattle.policy_text.specs.declared.values.Numerals.TheVariants.{Datapath, Hardware}
use Rattle.policy_text.specs.declared.values.Texts.TheVariants.{Name, Controller, Any}
use Rattle.of10_model.specs.Results.{◌>>=◌}
use Rattle.of10_model.proofs.Results.{bind_is}
use Rattle.flowspace.specs.Options.{when}
use Rattle.policy_text.specs.Reading.{SectionView, key_place, least_text, no_unknown, known_keys, value_formed, demanded, allowed, required, optional, is_allowed_number, number, is_text, text, each_text, text_list, numeral, addresses, reads}
use Rattle.policy_text.specs.Slices.{slice_of_table, slice_of, slices_from}
use Rattle.policy_text.specs.Rules.{link_in, pattern_in, known_slot, writer_slot, are_different, bits_below, no_improper, proper, RuleText, names_under, rule_text_in, rule_from, rule_in, rule_of, rules_from}
use Rattle.policy_text.specs.Ports.{PortText, port_text_in, port_slot, swap_from, swap_in, swap_of, swaps_from}
use Rattle.flowspace.specs.Slices.{slot_named}
use Rattle.address_text.specs.Texts.{hex_text, hardware_text, prefix_text}
use Rattle.policy_text.specs.Printing.{Entry, unless_default, slice_entries, number_value, text_value, slice_name, names_in, names_array, entries_beside, link_entries, network_entries, swap_entries, IsRuleInRange, IsSwapInRange}
use Rattle.policy_text.proofs.Sound.{rule_from_is, swap_from_is}
use Rattle.policy_text.proofs.PrintedNodes.{are_apart, found, members_from, get_entry, all_known, known_entries, table_of}
use Rattle.policy_text.proofs.PrintedReaders.{slot_back, name_at_back, readers_back}
use Rattle.address_text.proofs.Printed.{datapath_back, hardware_back, prefix_back}

-- ---- one key

-- a table with these entries
abbrev of_entries : Part → ℕ → List Entry → SectionView
of_entries kind index entries = record { part = kind; index = index; members = members_from entries }

known_back : (allowed_keys : Keys) (kind : Part) (index : ℕ) (entries : List Entry) → all_known allowed_keys entries ≡ true → known_keys allowed_keys (of_entries kind index entries) ≡ Ok tt
known_back allowed_keys kind index entries known = ap (λ unknown. no_unknown (of_entries kind index entries) (least_text unknown)) (known_entries allowed_keys entries known)

optional_back : {A : Type 0} (kind : Part) (index : ℕ) (entries : List Entry) (read : Data → Option A) (key : List ℕ) (r : Result (Option A) ReadFault) → are_apart entries ≡ true
    → allowed read (key_place (of_entries kind index entries) key) (found key entries) ≡ r → optional read (of_entries kind index entries) key ≡ r
optional_back kind index entries read key r apart e = ap (allowed read (key_place (of_entries kind index entries) key)) (get_entry key entries apart) ∙ e

required_back : {A : Type 0} (kind : Part) (index : ℕ) (entries : List Entry) (read : Data → Option A) (key : List ℕ) (r : Result A ReadFault) → are_apart entries ≡ true
    → demanded read (key_place (of_entries kind index entries) key) (found key entries) ≡ r → required read (of_entries kind index entries) key ≡ r
required_back kind index entries read key r apart e = ap (demanded read (key_place (of_entries kind index entries) key)) (get_entry key entries apart) ∙ e

-- ---- one value

formed_back : {A : Type 0} (at : Place) (o : Option A) (x : A) → o ≡ Some x → value_formed at o ≡ Ok x
formed_back at o x e = ap (value_formed at) e

when_back : {A : Type 0} (b : Bool) (x : A) → b ≡ true → when b x ≡ Some x
when_back b x e = rw e refl

number_back : (numbers : Numbers) (at : Place) (o : Option ℕ) → IfSome o (λ n. is_allowed_number numbers n ≡ true) → allowed (number numbers) at (number_value o) ≡ Ok o
number_back numbers at None h = refl
number_back numbers at (Some n) h = rw h refl

text_back : {A : Type 0} (read : Data → Option A) (spell : A → List ℕ) (at : Place) (o : Option A) → IfSome o (λ x. read (string (spell x)) ≡ Some x) → allowed read at (text_value (option_map spell o)) ≡ Ok o
text_back read spell at None h = refl
text_back read spell at (Some x) h = rw h refl

-- a number that is left out where it is taken for granted
record DefaultBack (numbers : Numbers) (at : Place) (default n : ℕ) : Type 0 where
  pub read : Option ℕ
  pub is : allowed (number numbers) at (unless_default default n) ≡ Ok read
  pub value : unwrap_or read default ≡ n

default_back : (numbers : Numbers) (at : Place) (default n : ℕ) → is_allowed_number numbers n ≡ true → DefaultBack numbers at default n
default_back numbers at default n allows =
    elim (cases_Bool (n == default)) [
      | inl same ↦ record { read = None; is = rw same refl; value = sym (eqb-true n default same) }
      | inr other ↦ record { read = Some n; is = rw (other, allows) refl; value = refl }
    ]

-- ---- slices

between : (low high n : ℕ) → low ≤ n → n ≤ high → is_allowed_number (Between low high) n ≡ true
between low high n a b = rw (le-leb low n a, le-leb n high b) refl

name_is : (s : Slice) → IsPlainSlice s → is_text Name s.name ≡ true
name_is s plain = name_from s.name plain.name_some plain.name_short plain.name_bytes

controller_is : (s : Slice) → IsPlainSlice s → is_text Controller s.controller ≡ true
controller_is s plain = controller_from s.controller plain.controller_some plain.controller_short

slice_same : (s : Slice) (rate burst quota : ℕ) → rate ≡ s.rate → burst ≡ s.burst → quota ≡ s.quota
    → (let t : Slice = record { name = s.name; controller = s.controller; rate = rate; burst = burst; quota = quota } in t) ≡ s
slice_same s rate burst quota a b c = rw (a, b, c) refl

slice_back : (index : ℕ) (s : Slice) → IsPlainSlice s → slice_of_table (of_entries part.Slice index (slice_entries s)) ≡ Ok s
unfolding slice_of_table
slice_back index s plain =
    let entries = slice_entries s in
    let this = of_entries part.Slice index entries in
    let rate = default_back (Between 1 1000000) (key_place this (codes "rate")) 1000 s.rate (between 1 1000000 s.rate plain.rate_some plain.rate_limit) in
    let burst = default_back (Between 1 1000000) (key_place this (codes "burst")) 1000 s.burst (between 1 1000000 s.burst plain.burst_some plain.burst_limit) in
    let quota = default_back (UpTo 4096) (key_place this (codes "quota")) 1024 s.quota (le-leb s.quota 4096 plain.quota_limit) in
    bind_is (known_keys keys.Slice this) _ tt _ (known_back keys.Slice part.Slice index entries refl)
    (bind_is (required (text Name) this (codes "name")) _ s.name _ (required_back part.Slice index entries (text Name) (codes "name") (Ok s.name) refl (formed_back _ _ s.name (when_back (is_text Name s.name) s.name (name_is s plain))))
    (bind_is (required (text Controller) this (codes "controller")) _ s.controller _ (required_back part.Slice index entries (text Controller) (codes "controller") (Ok s.controller) refl (formed_back _ _ s.controller (when_back (is_text Controller s.controller) s.controller (controller_is s plain))))
    (bind_is (optional (number (Between 1 1000000)) this (codes "rate")) _ rate.read _ (optional_back part.Slice index entries (number (Between 1 1000000)) (codes "rate") (Ok rate.read) refl rate.is)
    (bind_is (optional (number (Between 1 1000000)) this (codes "burst")) _ burst.read _ (optional_back part.Slice index entries (number (Between 1 1000000)) (codes "burst") (Ok burst.read) refl burst.is)
    (bind_is (optional (number (UpTo 4096)) this (codes "quota")) _ quota.read _ (optional_back part.Slice index entries (number (UpTo 4096)) (codes "quota") (Ok quota.read) refl quota.is)
    (ap Ok (slice_same s (unwrap_or rate.read 1000) (unwrap_or burst.read 1000) (unwrap_or quota.read 1024) rate.value burst.value quota.value)))))))

-- ---- the match

-- all entries of a rule
abbrev pub rule_entries : List Slice → Rule → List Entry
rule_entries slices r = entries_beside slices r ++ (link_entries r.pattern ++ network_entries r.pattern)

port_allowed : (o : Option ℕ) → IfSome o IsInPort → IfSome o (λ n. is_allowed_number InPort n ≡ true)
port_allowed None h = tt
port_allowed (Some n) h = is_in_port-IsInPort n h

vlan_allowed : (o : Option ℕ) → IfSome o IsVlan → IfSome o (λ n. is_allowed_number Vlan n ≡ true)
vlan_allowed None h = tt
vlan_allowed (Some n) (inl low) = rw (le-leb n 4095 low) refl
vlan_allowed (Some n) (inr mark) = rw mark refl

below_allowed : (high limit : ℕ) → limit ≡ suc high → (o : Option ℕ) → IsBelow limit o → IfSome o (λ n. is_allowed_number (UpTo high) n ≡ true)
below_allowed high limit e None h = tt
below_allowed high limit e (Some n) h = le-leb n high (omega (arith, h, e))

service_allowed : (o : Option ℕ) → IsService o → IfSome o (λ n. is_allowed_number Service n ≡ true)
service_allowed None h = tt
service_allowed (Some n) h =
    let few : n ≤ 252 = omega (arith, h.0, h.1) in
    rw (le-leb n 252 few, eq-eqb (n % 4) 0 h.1) refl

hardware_allowed : (o : Option ℕ) → IsBelow (2 ^ 48) o → IfSome o (λ n. numeral Hardware (string (hardware_text n)) ≡ Some n)
hardware_allowed None h = tt
hardware_allowed (Some n) h = hardware_back n h

prefix_allowed : (o : Option Prefix) → IsPrefix o → IfSome o (λ p. addresses (string (prefix_text p)) ≡ Some p)
prefix_allowed None h = tt
prefix_allowed (Some p) h = prefix_back p h

switch_allowed : (o : Option ℕ) → IfSome o (λ n. n < 2 ^ 64) → IfSome o (λ n. numeral Datapath (string (hex_text 16 n)) ≡ Some n)
switch_allowed None h = tt
switch_allowed (Some n) h = datapath_back n h

module _ (slices : List Slice) (index : ℕ) (r : Rule) (plain : IsPlainRule r) (held : IsRuleInRange r) where
  entries : List Entry
  entries = rule_entries slices r

  this : SectionView
  this = of_entries part.Rule index entries

  number_read : (numbers : Numbers) (key : List ℕ) (o : Option ℕ) → found key entries ≡ number_value o → IfSome o (λ n. is_allowed_number numbers n ≡ true) → optional (number numbers) this key ≡ Ok o
  unfolding this entries
  number_read numbers key o at h = optional_back part.Rule index (rule_entries slices r) (number numbers) key (Ok o) refl (ap (allowed (number numbers) (key_place this key)) at ∙ number_back numbers (key_place this key) o h)

  text_read : {A : Type 0} (read : Data → Option A) (spell : A → List ℕ) (key : List ℕ) (o : Option A) → found key entries ≡ text_value (option_map spell o) → IfSome o (λ x. read (string (spell x)) ≡ Some x) → optional read this key ≡ Ok o
  unfolding this entries
  text_read read spell key o at h = optional_back part.Rule index (rule_entries slices r) read key (Ok o) refl (ap (allowed read (key_place this key)) at ∙ text_back read spell (key_place this key) o h)

  link_read : link_in this ≡ Ok (record { in_port = r.pattern.in_port; dl_src = r.pattern.dl_src; dl_dst = r.pattern.dl_dst; dl_vlan = r.pattern.dl_vlan; dl_vlan_pcp = r.pattern.dl_vlan_pcp; dl_type = r.pattern.dl_type })
  unfolding link_in entries
  link_read =
      let m = r.pattern in
      let range = held.normal.0 in
      bind_is (optional (number InPort) this (codes "in_port")) _ m.in_port _ (number_read InPort (codes "in_port") m.in_port refl (port_allowed m.in_port plain.in_port))
      (bind_is (optional (numeral Hardware) this (codes "dl_src")) _ m.dl_src _ (text_read (numeral Hardware) hardware_text (codes "dl_src") m.dl_src refl (hardware_allowed m.dl_src range.dl_src))
      (bind_is (optional (numeral Hardware) this (codes "dl_dst")) _ m.dl_dst _ (text_read (numeral Hardware) hardware_text (codes "dl_dst") m.dl_dst refl (hardware_allowed m.dl_dst range.dl_dst))
      (bind_is (optional (number Vlan) this (codes "dl_vlan")) _ m.dl_vlan _ (number_read Vlan (codes "dl_vlan") m.dl_vlan refl (vlan_allowed m.dl_vlan plain.dl_vlan))
      (bind_is (optional (number (UpTo 7)) this (codes "dl_vlan_pcp")) _ m.dl_vlan_pcp _ (number_read (UpTo 7) (codes "dl_vlan_pcp") m.dl_vlan_pcp refl (below_allowed 7 8 refl m.dl_vlan_pcp range.dl_vlan_pcp))
      (bind_is (optional (number (UpTo 0xffff)) this (codes "dl_type")) _ m.dl_type _ (number_read (UpTo 0xffff) (codes "dl_type") m.dl_type refl (below_allowed 0xffff (2 ^ 16) refl m.dl_type range.dl_type)) refl)))))

  pattern_read : pattern_in this ≡ Ok r.pattern
  unfolding pattern_in entries
  pattern_read =
      let m = r.pattern in
      let range = held.normal.0 in
      bind_is (link_in this) _ _ _ link_read
      (bind_is (optional (number Service) this (codes "nw_tos")) _ m.nw_tos _ (number_read Service (codes "nw_tos") m.nw_tos refl (service_allowed m.nw_tos range.nw_tos))
      (bind_is (optional (number (UpTo 255)) this (codes "nw_proto")) _ m.nw_proto _ (number_read (UpTo 255) (codes "nw_proto") m.nw_proto refl (below_allowed 255 256 refl m.nw_proto range.nw_proto))
      (bind_is (optional addresses this (codes "nw_src")) _ m.nw_src _ (text_read addresses prefix_text (codes "nw_src") m.nw_src refl (prefix_allowed m.nw_src range.nw_src))
      (bind_is (optional addresses this (codes "nw_dst")) _ m.nw_dst _ (text_read addresses prefix_text (codes "nw_dst") m.nw_dst refl (prefix_allowed m.nw_dst range.nw_dst))
      (bind_is (optional (number (UpTo 0xffff)) this (codes "tp_src")) _ m.tp_src _ (number_read (UpTo 0xffff) (codes "tp_src") m.tp_src refl (below_allowed 0xffff (2 ^ 16) refl m.tp_src range.tp_src))
      (bind_is (optional (number (UpTo 0xffff)) this (codes "tp_dst")) _ m.tp_dst _ (number_read (UpTo 0xffff) (codes "tp_dst") m.tp_dst refl (below_allowed 0xffff (2 ^ 16) refl m.tp_dst range.tp_dst)) refl))))))

-- ---- the names

each_back : (texts : List (List ℕ)) → each_text (items_of (map string texts)) ≡ Some texts
each_back [] = refl
each_back (s ∷ texts) = rw (each_back texts) refl

names_back : (at : Place) (texts : List (List ℕ)) → (allowed text_list at (names_array texts) >>= (λ o. Ok (unwrap_or o []))) ≡ Ok texts
names_back at [] = refl
names_back at (s ∷ texts) = rw (each_back texts) refl

names_read : (kind : Part) (index : ℕ) (entries : List Entry) (key : List ℕ) (texts : List (List ℕ)) → are_apart entries ≡ true → found key entries ≡ names_array texts → names_under (of_entries kind index entries) key ≡ Ok texts
names_read kind index entries key texts apart at =
    let this = of_entries kind index entries in
    ap (λ d. allowed text_list (key_place this key) d >>= (λ o. Ok (unwrap_or o []))) (get_entry key entries apart ∙ at) ∙ names_back (key_place this key) texts

any_back : (at : Place) (o : Option (List ℕ)) → allowed (text Any) at (text_value o) ≡ Ok o
any_back at None = refl
any_back at (Some s) = refl

-- what a policy has of its slices
pub record AreNamed (slices : List Slice) : Type 0 where
  pub few : length slices ≤ 32
  pub differ : AllPairs (λ s t. s.name ≢ t.name) slices

writer_back : (slices : List Slice) (index : ℕ) (o : Option ℕ) → AreNamed slices → IfSome o (λ w. w < length slices) → writer_slot slices index (option_and_then (slice_name slices) o) ≡ Ok o
writer_back slices index None known h = refl
writer_back [] index (Some w) known h = absurd (omega (arith, h))
writer_back (s ∷ rest) index (Some w) known h =
    let slices = s ∷ rest in
    let name = (get_or slices w s).name in
    let small : w % 256 ≡ w = omega (arith, h, known.few) in
    let here : known_slot index (slot_named slices name) ≡ Ok w = ap (known_slot index) (slot_back slices w s known.differ h) in
    ap (writer_slot slices index) (name_at_back slices w s h) ∙ bind_is (known_slot index (slot_named slices name)) _ w _ here (ap (λ x. Ok (Some x)) small)

-- ---- no improper field

proper_back : (index : ℕ) (slots : List ℕ) (r : Rule) → IsPlainRule r → are_different slots ≡ true → proper index slots r.pattern ≡ Ok tt
proper_back index slots r plain different = rw different (ap (no_improper index) (none_improper r plain))

-- ---- the rule

rule_text_read : (slices : List Slice) (index : ℕ) (r : Rule) → IsPlainRule r → IsRuleInRange r
    → rule_text_in (of_entries part.Rule index (rule_entries slices r)) ≡ Ok (record { switch = r.switch; priority = r.priority; write = option_and_then (slice_name slices) r.writer; read = names_in r.readers slices; pattern = r.pattern })
unfolding rule_text_in this entries
rule_text_read slices index r plain held =
    let all = rule_entries slices r in
    let at = of_entries part.Rule index all in
    bind_is (known_keys keys.Rule at) _ tt _ (known_back keys.Rule part.Rule index all refl)
    (bind_is (optional (numeral Datapath) at (codes "switch")) _ r.switch _ (optional_back part.Rule index all (numeral Datapath) (codes "switch") (Ok r.switch) refl (text_back (numeral Datapath) (hex_text 16) (key_place at (codes "switch")) r.switch (switch_allowed r.switch held.switch)))
    (bind_is (required (number (UpTo 0xffffffff)) at (codes "priority")) _ r.priority _ (required_back part.Rule index all (number (UpTo 0xffffffff)) (codes "priority") (Ok r.priority) refl (formed_back _ _ r.priority (when_back (is_allowed_number (UpTo 0xffffffff) r.priority) r.priority (le-leb r.priority 0xffffffff (omega (arith, held.priority))))))
    (bind_is (optional (text Any) at (codes "write")) _ (option_and_then (slice_name slices) r.writer) _ (optional_back part.Rule index all (text Any) (codes "write") (Ok (option_and_then (slice_name slices) r.writer)) refl (any_back (key_place at (codes "write")) (option_and_then (slice_name slices) r.writer)))
    (bind_is (names_under at (codes "read")) _ (names_in r.readers slices) _ (names_read part.Rule index all (codes "read") (names_in r.readers slices) refl refl)
    (bind_is (pattern_in at) _ r.pattern _ (pattern_read slices index r plain held) refl)))))

rule_same : (r : Rule) (readers : ℕ) → readers ≡ r.readers → (let q : Rule = record { switch = r.switch; priority = r.priority; pattern = r.pattern; writer = r.writer; readers = readers } in q) ≡ r
rule_same r readers e = rw e refl

rule_back : (slices : List Slice) (index : ℕ) (r : Rule) → AreNamed slices → IsPlainRule r → IsRuleInRange r → IfSome r.writer (λ w. w < length slices) → r.readers < 2 ^ length slices
    → rule_in slices (of_entries part.Rule index (rule_entries slices r)) ≡ Ok r
rule_back slices index r known plain held writer readers =
    let at = of_entries part.Rule index (rule_entries slices r) in
    let said : RuleText = record { switch = r.switch; priority = r.priority; write = option_and_then (slice_name slices) r.writer; read = names_in r.readers slices; pattern = r.pattern } in
    let back = readers_back slices index r.readers known.differ known.few readers in
    bind_is (rule_text_in at) (rule_from slices index) said _ (rule_text_read slices index r plain held)
    (rule_from_is slices index said r.writer back.slots tt (writer_back slices index r.writer known writer) back.found (proper_back index back.slots r plain back.different)
    ∙ ap Ok (rule_same r (bits_below 32 back.slots) back.whole))

-- ---- the swap

port_back : (index : ℕ) (all : List Entry) (key : List ℕ) (n : ℕ) → are_apart all ≡ true → found key all ≡ number_value (Some n) → n ≤ 0xff00 → required (number (UpTo 0xff00)) (of_entries part.Port index all) key ≡ Ok n
port_back index all key n apart at le =
    required_back part.Port index all (number (UpTo 0xff00)) key (Ok n) apart
    (ap (demanded (number (UpTo 0xff00)) (key_place (of_entries part.Port index all) key)) at ∙ formed_back _ _ n (when_back (is_allowed_number (UpTo 0xff00) n) n (le-leb n 0xff00 le)))

port_text_read : (slices : List Slice) (d : Slice) (index : ℕ) (w : Swap) → w.slice < length slices → IsPlainSwap w → IsSwapInRange w
    → port_text_in (of_entries part.Port index (swap_entries slices w)) ≡ Ok (record { slice = (get_or slices w.slice d).name; switch = w.switch; shown = w.shown; physical = w.physical })
unfolding port_text_in
port_text_read slices d index w lt plain held =
    let all = swap_entries slices w in
    let at = of_entries part.Port index all in
    let name = (get_or slices w.slice d).name in
    bind_is (known_keys keys.Port at) _ tt _ (known_back keys.Port part.Port index all refl)
    (bind_is (required (text Any) at (codes "slice")) _ name _ (required_back part.Port index all (text Any) (codes "slice") (Ok name) refl (ap (λ o. demanded (text Any) (key_place at (codes "slice")) (text_value o)) (name_at_back slices w.slice d lt)))
    (bind_is (optional (numeral Datapath) at (codes "switch")) _ w.switch _ (optional_back part.Port index all (numeral Datapath) (codes "switch") (Ok w.switch) refl (text_back (numeral Datapath) (hex_text 16) (key_place at (codes "switch")) w.switch (switch_allowed w.switch held)))
    (bind_is (required (number (UpTo 0xff00)) at (codes "shown")) _ w.shown _ (port_back index all (codes "shown") w.shown refl refl plain.shown_limit)
    (bind_is (required (number (UpTo 0xff00)) at (codes "physical")) _ w.physical _ (port_back index all (codes "physical") w.physical refl refl plain.physical_limit) refl))))

swap_back : (slices : List Slice) (index : ℕ) (w : Swap) → AreNamed slices → w.slice < length slices → IsPlainSwap w → IsSwapInRange w → swap_in slices (of_entries part.Port index (swap_entries slices w)) ≡ Ok w
swap_back [] index w known lt plain held = absurd (omega (arith, lt))
swap_back (s ∷ rest) index w known lt plain held =
    let slices = s ∷ rest in
    let at = of_entries part.Port index (swap_entries slices w) in
    let name = (get_or slices w.slice s).name in
    let said : PortText = record { slice = name; switch = w.switch; shown = w.shown; physical = w.physical } in
    let small : w.slice % 256 ≡ w.slice = omega (arith, lt, known.few) in
    let here : port_slot index (slot_named slices name) ≡ Ok w.slice = ap (port_slot index) (slot_back slices w.slice s known.differ lt) ∙ ap Ok small in
    bind_is (port_text_in at) (swap_from slices index) said _ (port_text_read slices s index w lt plain held) (swap_from_is slices index said w.slice here)

-- ---- all of them

reads_back : {A : Type 0} (read : ℕ → Data → Result A ReadFault) (entries_of : A → List Entry) (P : A → Type 0) → ((index : ℕ) (x : A) → P x → read index (table_of (entries_of x)) ≡ Ok x)
    → (index : ℕ) (xs : List A) → AllByRecursion P xs → reads read index (items_of (map table_of (map entries_of xs))) ≡ Ok xs
reads_back read entries_of P each index [] holds = refl
reads_back read entries_of P each index (x ∷ rest) holds =
    bind_is (read index (table_of (entries_of x))) _ x _ (each index x holds.0)
    (bind_is (reads read (suc index) (items_of (map table_of (map entries_of rest)))) _ rest _ (reads_back read entries_of P each (suc index) rest holds.1) refl)

pub slices_back : (index : ℕ) (slices : List Slice) → AllByRecursion IsPlainSlice slices → slices_from index (items_of (map table_of (map slice_entries slices))) ≡ Ok slices
slices_back = reads_back slice_of slice_entries IsPlainSlice slice_back

-- what holds of a rule that is printed
pub record IsPrintable (slices : List Slice) (r : Rule) : Type 0 where
  pub plain : IsPlainRule r
  pub held : IsRuleInRange r
  pub writer : IfSome r.writer (λ w. w < length slices)
  pub readers : r.readers < 2 ^ length slices

pub rules_back : (slices : List Slice) (index : ℕ) (rules : List Rule) → AreNamed slices → AllByRecursion (IsPrintable slices) rules → rules_from slices index (items_of (map table_of (map (rule_entries slices) rules))) ≡ Ok rules
rules_back slices index rules known =
    reads_back (rule_of slices) (rule_entries slices) (IsPrintable slices) (λ at r is. rule_back slices at r known is.plain is.held is.writer is.readers) index rules

-- what holds of a swap that is printed
pub record IsPrintableSwap (slices : List Slice) (w : Swap) : Type 0 where
  pub plain : IsPlainSwap w
  pub held : IsSwapInRange w
  pub slice : w.slice < length slices

pub swaps_back : (slices : List Slice) (index : ℕ) (swaps : List Swap) → AreNamed slices → AllByRecursion (IsPrintableSwap slices) swaps → swaps_from slices index (items_of (map table_of (map (swap_entries slices) swaps))) ≡ Ok swaps
swaps_back slices index swaps known =
    reads_back (swap_of slices) (swap_entries slices) (IsPrintableSwap slices) (λ at w is. swap_back slices at w known is.slice is.plain is.held) index swaps
