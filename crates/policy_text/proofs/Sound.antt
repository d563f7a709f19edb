-- The slices, the rules and the swaps that a text says are plain.
use Rattle.std.proofs.Common.{◌≡◌, ℕ, suc, ◌≤◌, Bool, true, false, ◌&&◌, cond, leb-true, List, [], ◌∷◌, length, Option, Some, None, IfSome, Ok, codes, unwrap_or, refl, subst, arith}
use Rattle.std.specs.List.{AllByRecursion}
use Rattle.std.proofs.lemmas.Bool.{and_parts}
use Rattle.std.proofs.lemmas.List.Elements.{All-from_recursion}
use Rattle.toml.specs.Data.{Data, string, integer, float, boolean, datetime, array, table, Items, no_items, item, Members}
use Rattle.toml.specs.Text.{has_items, are_tables}
use Rattle.of10_model.specs.declared.pattern.Pattern.{Pattern}
use Rattle.flowspace.specs.declared.fault.Field.{Field}
use Rattle.flowspace.specs.declared.rules.Rule.{Rule}
use Rattle.flowspace.specs.declared.slices.Slice.{Slice}
use Rattle.flowspace.specs.declared.swaps.Swap.{Swap}
use Rattle.flowspace.specs.Policies.{PolicyView}
use Rattle.flowspace.specs.Rules.{IsPlainRule, first_improper}
use Rattle.flowspace.specs.Slices.{IsPlainSlice, slot_named}
use Rattle.flowspace.specs.Swaps.{IsPlainSwap}
use Rattle.flowspace.proofs.Improper.{plain_rule}
use Rattle.flowspace.proofs.Naming.{name_parts, controller_parts}
use Rattle.policy_text.specs.declared.known_keys.Keys.TheVariants as keys
use Rattle.policy_text.specs.declared.values.Numbers.TheVariants.{UpTo, Between}
use Rattle.policy_text.specs.declared.values.Numerals.TheVariants.{Datapath}
use Rattle.policy_text.specs.declared.values.Texts.TheVariants.{Name, Controller, Any}
use Rattle.policy_text.specs.Reading.{SectionView, known_keys, required, optional, number, numeral, is_text, text, tables, some_tables}
use Rattle.policy_text.specs.Slices.{slice_section, slice_of_table, slice_of, slices_from}
use Rattle.policy_text.specs.Rules.{are_different, bits_below, writer_slot, slots_of, no_improper, proper, RuleText, rule_text_in, rule_from, rule_section, rule_in, rule_of, rules_from}
use Rattle.policy_text.specs.Ports.{port_section, PortText, port_text_in, port_slot, swap_from, swap_in, swap_of, swaps_from}
use Rattle.policy_text.specs.Documents.{top, parts_in, parts_of, ArePlain}
use Rattle.std.proofs.lemmas.Option.{cond_some}
use Rattle.of10_model.proofs.Results.{bind_ok, bind_is, ok_is}
use Rattle.of10_model.proofs.Ranges.{between}
use Rattle.policy_text.proofs.Arrays.{of_tables, reads_sound}
use Rattle.policy_text.proofs.Steps.{optional_holds, required_holds, number_is, text_is}
use Rattle.policy_text.proofs.RuleParts.{rule_read}
use Rattle.policy_text.proofs.SoundPatterns.{IsWritten, pattern_sound}

-- ---- slices

or_default : (P : ℕ → Type 0) (o : Option ℕ) (n : ℕ) → IfSome o P → P n → P (unwrap_or o n)
or_default P None n h k = k
or_default P (Some x) n h k = h

rate_read : (this : SectionView) (key : List ℕ) (o : Option ℕ) → optional (number (Between 1 1000000)) this key ≡ Ok o → (1 ≤ unwrap_or o 1000) × (unwrap_or o 1000 ≤ 1000000)
rate_read this key o e =
    or_default (λ n. (1 ≤ n) × (n ≤ 1000000)) o 1000
    (optional_holds (λ n. (1 ≤ n) × (n ≤ 1000000)) (number (Between 1 1000000)) (λ d n r. between 1 1000000 n (number_is (Between 1 1000000) d n r)) this key o e)
    (omega arith, omega arith)

quota_read : (this : SectionView) (key : List ℕ) (o : Option ℕ) → optional (number (UpTo 4096)) this key ≡ Ok o → unwrap_or o 1024 ≤ 4096
quota_read this key o e =
    or_default (λ n. n ≤ 4096) o 1024
    (optional_holds (λ n. n ≤ 4096) (number (UpTo 4096)) (λ d n r. leb-true _ _ (number_is (UpTo 4096) d n r)) this key o e)
    (omega arith)

slice_sound : (this : SectionView) (s : Slice) → slice_of_table this ≡ Ok s → IsPlainSlice s
unfolding slice_of_table
slice_sound this s e =
    let k = bind_ok (known_keys keys.Slice this) _ s e in
    let a = bind_ok (required (text Name) this (codes "name")) _ s k.2 in
    let b = bind_ok (required (text Controller) this (codes "controller")) _ s a.2 in
    let c = bind_ok (optional (number (Between 1 1000000)) this (codes "rate")) _ s b.2 in
    let d = bind_ok (optional (number (Between 1 1000000)) this (codes "burst")) _ s c.2 in
    let f = bind_ok (optional (number (UpTo 4096)) this (codes "quota")) _ s d.2 in
    let made : Slice = record { name = a.0; controller = b.0; rate = unwrap_or c.0 1000; burst = unwrap_or d.0 1000; quota = unwrap_or f.0 1024 } in
    let name = required_holds (λ t. is_text Name t ≡ true) (text Name) (text_is Name) this (codes "name") a.0 a.1 in
    let controller = required_holds (λ t. is_text Controller t ≡ true) (text Controller) (text_is Controller) this (codes "controller") b.0 b.1 in
    let named = name_parts a.0 name in
    let controlled = controller_parts b.0 controller in
    let rate = rate_read this (codes "rate") c.0 c.1 in
    let burst = rate_read this (codes "burst") d.0 d.1 in
    subst IsPlainSlice (ok_is made s f.2) (record {
      name_some = named.some;
      name_short = named.short;
      name_bytes = named.bytes;
      controller_some = controlled.0;
      controller_short = controlled.1;
      rate_some = rate.0;
      rate_limit = rate.1;
      burst_some = burst.0;
      burst_limit = burst.1;
      quota_limit = quota_read this (codes "quota") f.0 f.1;
    })

slice_of_sound : (index : ℕ) (d : Data) (s : Slice) → slice_of index d ≡ Ok s → IsPlainSlice s
slice_of_sound index d s = of_tables (λ r. r ≡ Ok s → IsPlainSlice s) _ _ (λ ms. slice_sound (slice_section index ms) s) (λ e. absurd cc) d

slices_sound : (index : ℕ) (ds : Items) (ss : List Slice) → slices_from index ds ≡ Ok ss → AllByRecursion IsPlainSlice ss
slices_sound = reads_sound IsPlainSlice slice_of slice_of_sound

some_slices : (index : ℕ) (ds : Items) (ss : List Slice) → has_items ds ≡ true → slices_from index ds ≡ Ok ss → 1 ≤ length ss
some_slices index no_items ss some e = absurd cc
some_slices index (item d ds) ss some e =
    let a = bind_ok (slice_of index d) _ ss e in
    let b = bind_ok (slices_from (suc index) ds) _ ss a.2 in
    subst (λ l. 1 ≤ length l) (ok_is (a.0 ∷ b.0) ss b.2) (omega arith)

-- ---- rules

no_improper_is : (index : ℕ) (o : Option Field) (u : Unit {0}) → no_improper index o ≡ Ok u → o ≡ None
no_improper_is index None u e = refl
no_improper_is index (Some field) u e = absurd cc

proper_cases : (b : Bool) (o : Option Field) (field : Field) → cond b o (Some field) ≡ None → o ≡ None
proper_cases true o field e = e
proper_cases false o field e = absurd cc

pub proper_is : (index : ℕ) (slots : List ℕ) (m : Pattern) (u : Unit {0}) → proper index slots m ≡ Ok u → first_improper m ≡ None
proper_is index slots m u e = proper_cases (are_different slots) (first_improper m) _ (no_improper_is index _ u e)

pub text_sound : (this : SectionView) (t : RuleText) → rule_text_in this ≡ Ok t → IsWritten t.pattern
text_sound this t e = pattern_sound this t.pattern (rule_read this t e).pattern

-- the rule of what a table says, with its writer and its readers
abbrev pub rule_with : RuleText → Option ℕ → List ℕ → Rule
rule_with t writer slots = record { switch = t.switch; priority = t.priority; pattern = t.pattern; writer = writer; readers = bits_below 32 slots }

-- the rule of what a table says, from its parts
pub rule_from_is : (slices : List Slice) (index : ℕ) (t : RuleText) (writer : Option ℕ) (slots : List ℕ) (u : Unit {0}) → writer_slot slices index t.write ≡ Ok writer → slots_of slices index t.read ≡ Ok slots
    → proper index slots t.pattern ≡ Ok u → rule_from slices index t ≡ Ok (rule_with t writer slots)
unfolding rule_from
rule_from_is slices index t writer slots u a b c =
    bind_is (writer_slot slices index t.write) _ writer _ a (bind_is (slots_of slices index t.read) _ slots _ b (bind_is (proper index slots t.pattern) _ u _ c refl))

-- the parts that a rule was made from
pub rule_from_parts : (slices : List Slice) (index : ℕ) (t : RuleText) (r : Rule) → rule_from slices index t ≡ Ok r
    → (writer : Option ℕ) × (slots : List ℕ) × (slots_of slices index t.read ≡ Ok slots) × (first_improper t.pattern ≡ None) × (rule_with t writer slots ≡ r)
unfolding rule_from
rule_from_parts slices index t r e =
    let a = bind_ok (writer_slot slices index t.write) _ r e in
    let b = bind_ok (slots_of slices index t.read) _ r a.2 in
    let c = bind_ok (proper index b.0 t.pattern) _ r b.2 in
    (a.0, b.0, b.1, proper_is index b.0 t.pattern c.0 c.1, ok_is (rule_with t a.0 b.0) r c.2)

from_sound : (slices : List Slice) (index : ℕ) (t : RuleText) (r : Rule) → IsWritten t.pattern → rule_from slices index t ≡ Ok r → IsPlainRule r
from_sound slices index t r written e =
    let parts = rule_from_parts slices index t r e in
    subst IsPlainRule parts.4 (plain_rule (rule_with t parts.0 parts.1) written.in_port written.dl_vlan parts.3)

rule_sound : (slices : List Slice) (this : SectionView) (r : Rule) → rule_in slices this ≡ Ok r → IsPlainRule r
rule_sound slices this r e =
    let a = bind_ok (rule_text_in this) (rule_from slices this.index) r e in
    from_sound slices this.index a.0 r (text_sound this a.0 a.1) a.2

rule_of_sound : (slices : List Slice) (index : ℕ) (d : Data) (r : Rule) → rule_of slices index d ≡ Ok r → IsPlainRule r
rule_of_sound slices index d r = of_tables (λ q. q ≡ Ok r → IsPlainRule r) _ _ (λ ms. rule_sound slices (rule_section index ms) r) (λ e. absurd cc) d

rules_sound : (slices : List Slice) (index : ℕ) (ds : Items) (rs : List Rule) → rules_from slices index ds ≡ Ok rs → AllByRecursion IsPlainRule rs
rules_sound slices = reads_sound IsPlainRule (rule_of slices) (rule_of_sound slices)

-- ---- swaps

port_limit : (this : SectionView) (key : List ℕ) (n : ℕ) → required (number (UpTo 0xff00)) this key ≡ Ok n → n ≤ 0xff00
port_limit this key n e = required_holds (λ n. n ≤ 0xff00) (number (UpTo 0xff00)) (λ d n r. leb-true _ _ (number_is (UpTo 0xff00) d n r)) this key n e

port_text_sound : (this : SectionView) (t : PortText) → port_text_in this ≡ Ok t → (t.shown ≤ 0xff00) × (t.physical ≤ 0xff00)
unfolding port_text_in
port_text_sound this t e =
    let k = bind_ok (known_keys keys.Port this) _ t e in
    let a = bind_ok (required (text Any) this (codes "slice")) _ t k.2 in
    let b = bind_ok (optional (numeral Datapath) this (codes "switch")) _ t a.2 in
    let c = bind_ok (required (number (UpTo 0xff00)) this (codes "shown")) _ t b.2 in
    let d = bind_ok (required (number (UpTo 0xff00)) this (codes "physical")) _ t c.2 in
    let made : PortText = record { slice = a.0; switch = b.0; shown = c.0; physical = d.0 } in
    subst (λ (x : PortText). (x.shown ≤ 0xff00) × (x.physical ≤ 0xff00)) (ok_is made t d.2) (port_limit this (codes "shown") c.0 c.1, port_limit this (codes "physical") d.0 d.1)

-- the swap of what a table says, with its slot
abbrev pub swap_with : PortText → ℕ → Swap
swap_with t slot = record { slice = slot; switch = t.switch; shown = t.shown; physical = t.physical }

pub swap_from_is : (slices : List Slice) (index : ℕ) (t : PortText) (slot : ℕ) → port_slot index (slot_named slices t.slice) ≡ Ok slot → swap_from slices index t ≡ Ok (swap_with t slot)
unfolding swap_from
swap_from_is slices index t slot e = bind_is (port_slot index (slot_named slices t.slice)) _ slot _ e refl

swap_from_sound : (slices : List Slice) (index : ℕ) (t : PortText) (w : Swap) → (t.shown ≤ 0xff00) × (t.physical ≤ 0xff00) → swap_from slices index t ≡ Ok w → IsPlainSwap w
unfolding swap_from
swap_from_sound slices index t w limits e =
    let a = bind_ok (port_slot index (slot_named slices t.slice)) _ w e in
    subst IsPlainSwap (ok_is (swap_with t a.0) w a.2) (record { shown_limit = limits.0; physical_limit = limits.1 })

swap_sound : (slices : List Slice) (this : SectionView) (w : Swap) → swap_in slices this ≡ Ok w → IsPlainSwap w
swap_sound slices this w e =
    let a = bind_ok (port_text_in this) (swap_from slices this.index) w e in
    swap_from_sound slices this.index a.0 w (port_text_sound this a.0 a.1) a.2

swap_of_sound : (slices : List Slice) (index : ℕ) (d : Data) (w : Swap) → swap_of slices index d ≡ Ok w → IsPlainSwap w
swap_of_sound slices index d w = of_tables (λ q. q ≡ Ok w → IsPlainSwap w) _ _ (λ ms. swap_sound slices (port_section index ms) w) (λ e. absurd cc) d

swaps_sound : (slices : List Slice) (index : ℕ) (ds : Items) (ws : List Swap) → swaps_from slices index ds ≡ Ok ws → AllByRecursion IsPlainSwap ws
swaps_sound slices = reads_sound IsPlainSwap (swap_of slices) (swap_of_sound slices)

-- ---- the whole

tables_some : (d : Data) (items : Items) → some_tables d ≡ Some items → has_items items ≡ true
tables_some (array ds) items e =
    let w = cond_some (has_items ds && are_tables ds) ds items e in
    subst (λ x. has_items x ≡ true) w.1 (and_parts (has_items ds) (are_tables ds) w.0).0
tables_some (string x) items e = absurd cc
tables_some (integer x) items e = absurd cc
tables_some (float x) items e = absurd cc
tables_some (boolean x) items e = absurd cc
tables_some (datetime x) items e = absurd cc
tables_some (table x) items e = absurd cc

pub parts_sound : (highest : ℕ) (this : SectionView) (p : PolicyView) → parts_in highest this ≡ Ok p → ArePlain p
unfolding parts_in
parts_sound highest this p e =
    let a = bind_ok (required (number (Between 1 highest)) this (codes "version")) _ p e in
    let k = bind_ok (known_keys (keys.Top a.0) this) _ p a.2 in
    let b = bind_ok (required some_tables this (codes "slice")) _ p k.2 in
    let c = bind_ok (optional tables this (codes "rule")) _ p b.2 in
    let h = bind_ok (optional tables this (codes "port")) _ p c.2 in
    let d = bind_ok (slices_from 0 b.0) _ p h.2 in
    let f = bind_ok (rules_from d.0 0 (unwrap_or c.0 no_items)) _ p d.2 in
    let g = bind_ok (swaps_from d.0 0 (unwrap_or h.0 no_items)) _ p f.2 in
    let made : PolicyView = record { slices = d.0; rules = f.0; swaps = g.0 } in
    let some = required_holds (λ items. has_items items ≡ true) some_tables tables_some this (codes "slice") b.0 b.1 in
    subst ArePlain (ok_is made p g.2) (record {
      some_slice = some_slices 0 b.0 d.0 some d.1;
      slices = All-from_recursion IsPlainSlice d.0 (slices_sound 0 b.0 d.0 d.1);
      rules = All-from_recursion IsPlainRule f.0 (rules_sound d.0 0 (unwrap_or c.0 no_items) f.0 f.1);
      swaps = All-from_recursion IsPlainSwap g.0 (swaps_sound d.0 0 (unwrap_or h.0 no_items) g.0 g.1);
    })

pub document_sound : (highest : ℕ) (document : Option Members) (p : PolicyView) → parts_of highest document ≡ Ok p → ArePlain p
document_sound highest None p e = absurd cc
document_sound highest (Some ms) p e = parts_sound highest (top ms) p e
