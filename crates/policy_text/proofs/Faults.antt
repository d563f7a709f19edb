-- What holds of each fault that a table may have holds of the fault that its reading gives.
use Rattle.std.proofs.Common.{ℕ, List, [], ◌∷◌, Bool, true, false, cond, Option, Some, None, IfSome, is_some, ◌≡◌, ◌⊎◌, inl, inr, refl, Result, Ok, Err, IfErr, codes}
use Rattle.toml.specs.Data.{Data, Members, get_member}
use Rattle.flowspace.specs.declared.fault.Field.{Field}
use Rattle.flowspace.specs.declared.fault.PolicyFault.TheVariants.{UnknownSlice, UnknownPortSlice}
use Rattle.flowspace.specs.declared.slices.Slice.{Slice}
use Rattle.flowspace.specs.Rules.{first_improper}
use Rattle.policy_text.specs.declared.fault.Place.{Place}
use Rattle.policy_text.specs.declared.fault.ReadFault.{ReadFault}
use Rattle.policy_text.specs.declared.fault.ReadFault.TheVariants.{Missing, BadValue, UnknownKey, Improper, Refused}
use Rattle.policy_text.specs.declared.known_keys.Keys.{Keys}
use Rattle.policy_text.specs.declared.known_keys.Keys.TheVariants as keys
use Rattle.policy_text.specs.declared.values.Numbers.TheVariants.{UpTo, Between, InPort, Vlan, Service}
use Rattle.policy_text.specs.declared.values.Numerals.TheVariants.{Datapath, Hardware}
use Rattle.policy_text.specs.declared.values.Texts.TheVariants.{Name, Controller, Any}
use Rattle.of10_model.specs.Results.{◌>>=◌}
use Rattle.policy_text.specs.Keys.{IsKey, IsLeastUnknown, is_needed, has_form}
use Rattle.policy_text.specs.Places.{field_key}
use Rattle.policy_text.specs.Reading.{SectionView, key_place, is_known_key, least_text, unknown_keys, no_unknown, known_keys, value_formed, demanded, allowed, required, optional, number, numeral, addresses, text, text_list}
use Rattle.policy_text.specs.Slices.{slice_section, slice_of_table}
use Rattle.policy_text.specs.Rules.{link_in, pattern_in, known_slot, writer_slot, slots_of, are_different, no_improper, proper, RuleText, names_under, rule_text_in, rule_from, rule_section, rule_in}
use Rattle.policy_text.specs.Ports.{port_section, PortText, port_text_in, port_slot, swap_from, swap_in}
use Rattle.flowspace.specs.Slices.{slot_named}
use Rattle.of10_model.proofs.Results.{bind_ok}
use Rattle.policy_text.proofs.Keys.{not_there, required_there, IsFor, for_any, TextThere, text_there, same_slots_there, improper_there}
use Rattle.policy_text.proofs.LeastUnknown.{IsNamed, named as named_least}

-- the fault of a reading, where it has one, is of this kind
abbrev pub Has : {A : Type 0} → (ReadFault → Type 0) → Result A ReadFault → Type 0
Has P r = IfErr r P

pub bind_has : (P : ReadFault → Type 0) {A B : Type 0} (r : Result A ReadFault) (f : A → Result B ReadFault) → Has P r → ((x : A) → Has P (f x)) → Has P (r >>= f)
bind_has P (Ok x) f own more = more x
bind_has P (Err fault) f own more = own

pub bind_has_after : (P : ReadFault → Type 0) {A B : Type 0} (r : Result A ReadFault) (f : A → Result B ReadFault) → Has P r → ((x : A) → r ≡ Ok x → Has P (f x)) → Has P (r >>= f)
bind_has_after P (Ok x) f own more = more x refl
bind_has_after P (Err fault) f own more = own

-- a fault of the value under a key, where it isn't of this form, is of this kind
abbrev pub OfValue : (ReadFault → Type 0) → SectionView → List ℕ → (Data → Bool) → Type 0
OfValue P this key form = (d : Data) → get_member key this.members ≡ Some d → form d ≡ false → P (BadValue (key_place this key))

-- a fault for a missing key is of this kind
abbrev pub OfMissing : (ReadFault → Type 0) → SectionView → List ℕ → Type 0
OfMissing P this key = (IsKey this.members key → ⊥) → P (Missing (key_place this key))

-- each fault of a table's keys is of this kind
pub record OfKeys (P : ReadFault → Type 0) (kind : Keys) (this : SectionView) : Type 0 where
  pub needed : (key : List ℕ) → is_needed this.part key ≡ true → OfMissing P this key
  pub known : (key : List ℕ) → is_known_key kind key ≡ true → OfValue P this key (has_form this.part key)
  pub unknown : (key : List ℕ) → IsLeastUnknown kind this.members key → P (UnknownKey (key_place this key))

formed_has : (P : ReadFault → Type 0) {A : Type 0} (at : Place) (o : Option A) → (is_some o ≡ false → P (BadValue at)) → Has P (value_formed at o)
formed_has P at None bad = bad refl
formed_has P at (Some x) bad = tt

demanded_has : (P : ReadFault → Type 0) {A : Type 0} (read : Data → Option A) (this : SectionView) (key : List ℕ) (o : Option Data) → get_member key this.members ≡ o → OfMissing P this key → OfValue P this key (λ d. is_some (read d))
    → Has P (demanded read (key_place this key) o)
demanded_has P read this key None e m h = m (not_there key this.members e)
demanded_has P read this key (Some d) e m h = formed_has P (key_place this key) (read d) (h d e)

allowed_has : (P : ReadFault → Type 0) {A : Type 0} (read : Data → Option A) (this : SectionView) (key : List ℕ) (o : Option Data) → get_member key this.members ≡ o → OfValue P this key (λ d. is_some (read d))
    → Has P (allowed read (key_place this key) o)
allowed_has P read this key None e h = tt
allowed_has P read this key (Some d) e h = bind_has P (value_formed (key_place this key) (read d)) (λ x. Ok (Some x)) (formed_has P (key_place this key) (read d) (h d e)) (λ x. tt)

pub required_has : (P : ReadFault → Type 0) {A : Type 0} (read : Data → Option A) (this : SectionView) (key : List ℕ) → OfMissing P this key → OfValue P this key (λ d. is_some (read d)) → Has P (required read this key)
required_has P read this key m h = demanded_has P read this key (get_member key this.members) refl m h

pub optional_has : (P : ReadFault → Type 0) {A : Type 0} (read : Data → Option A) (this : SectionView) (key : List ℕ) → OfValue P this key (λ d. is_some (read d)) → Has P (optional read this key)
optional_has P read this key h = allowed_has P read this key (get_member key this.members) refl h

no_unknown_has : (P : ReadFault → Type 0) (kind : Keys) (this : SectionView) (o : Option (List ℕ)) → IsNamed kind this.members o → OfKeys P kind this → Has P (no_unknown this o)
no_unknown_has P kind this None n h = tt
no_unknown_has P kind this (Some key) n h = h.unknown key n

pub known_has : (P : ReadFault → Type 0) (kind : Keys) (this : SectionView) → OfKeys P kind this → Has P (known_keys kind this)
known_has P kind this h = no_unknown_has P kind this (least_text (unknown_keys kind this.members)) (named_least kind this.members) h

-- ---- slices

pub slice_has : (P : ReadFault → Type 0) (index : ℕ) (ms : Members) → OfKeys P keys.Slice (slice_section index ms) → Has P (slice_of_table (slice_section index ms))
unfolding slice_of_table
slice_has P index ms h =
    let this = slice_section index ms in
    bind_has P (known_keys keys.Slice this) _ (known_has P keys.Slice this h) (λ _.
    bind_has P (required (text Name) this (codes "name")) _ (required_has P (text Name) this (codes "name") (h.needed (codes "name") refl) (h.known (codes "name") refl)) (λ _.
    bind_has P (required (text Controller) this (codes "controller")) _ (required_has P (text Controller) this (codes "controller") (h.needed (codes "controller") refl) (h.known (codes "controller") refl)) (λ _.
    bind_has P (optional (number (Between 1 1000000)) this (codes "rate")) _ (optional_has P (number (Between 1 1000000)) this (codes "rate") (h.known (codes "rate") refl)) (λ _.
    bind_has P (optional (number (Between 1 1000000)) this (codes "burst")) _ (optional_has P (number (Between 1 1000000)) this (codes "burst") (h.known (codes "burst") refl)) (λ _.
    bind_has P (optional (number (UpTo 4096)) this (codes "quota")) _ (optional_has P (number (UpTo 4096)) this (codes "quota") (h.known (codes "quota") refl)) (λ _. tt))))))

-- ---- rules

link_has : (P : ReadFault → Type 0) (index : ℕ) (ms : Members) → OfKeys P keys.Rule (rule_section index ms) → Has P (link_in (rule_section index ms))
unfolding link_in
link_has P index ms h =
    let this = rule_section index ms in
    bind_has P (optional (number InPort) this (codes "in_port")) _ (optional_has P (number InPort) this (codes "in_port") (h.known (codes "in_port") refl)) (λ _.
    bind_has P (optional (numeral Hardware) this (codes "dl_src")) _ (optional_has P (numeral Hardware) this (codes "dl_src") (h.known (codes "dl_src") refl)) (λ _.
    bind_has P (optional (numeral Hardware) this (codes "dl_dst")) _ (optional_has P (numeral Hardware) this (codes "dl_dst") (h.known (codes "dl_dst") refl)) (λ _.
    bind_has P (optional (number Vlan) this (codes "dl_vlan")) _ (optional_has P (number Vlan) this (codes "dl_vlan") (h.known (codes "dl_vlan") refl)) (λ _.
    bind_has P (optional (number (UpTo 7)) this (codes "dl_vlan_pcp")) _ (optional_has P (number (UpTo 7)) this (codes "dl_vlan_pcp") (h.known (codes "dl_vlan_pcp") refl)) (λ _.
    bind_has P (optional (number (UpTo 0xffff)) this (codes "dl_type")) _ (optional_has P (number (UpTo 0xffff)) this (codes "dl_type") (h.known (codes "dl_type") refl)) (λ _. tt))))))

pattern_has : (P : ReadFault → Type 0) (index : ℕ) (ms : Members) → OfKeys P keys.Rule (rule_section index ms) → Has P (pattern_in (rule_section index ms))
unfolding pattern_in
pattern_has P index ms h =
    let this = rule_section index ms in
    bind_has P (link_in this) _ (link_has P index ms h) (λ _.
    bind_has P (optional (number Service) this (codes "nw_tos")) _ (optional_has P (number Service) this (codes "nw_tos") (h.known (codes "nw_tos") refl)) (λ _.
    bind_has P (optional (number (UpTo 255)) this (codes "nw_proto")) _ (optional_has P (number (UpTo 255)) this (codes "nw_proto") (h.known (codes "nw_proto") refl)) (λ _.
    bind_has P (optional addresses this (codes "nw_src")) _ (optional_has P addresses this (codes "nw_src") (h.known (codes "nw_src") refl)) (λ _.
    bind_has P (optional addresses this (codes "nw_dst")) _ (optional_has P addresses this (codes "nw_dst") (h.known (codes "nw_dst") refl)) (λ _.
    bind_has P (optional (number (UpTo 0xffff)) this (codes "tp_src")) _ (optional_has P (number (UpTo 0xffff)) this (codes "tp_src") (h.known (codes "tp_src") refl)) (λ _.
    bind_has P (optional (number (UpTo 0xffff)) this (codes "tp_dst")) _ (optional_has P (number (UpTo 0xffff)) this (codes "tp_dst") (h.known (codes "tp_dst") refl)) (λ _. tt)))))))

text_has : (P : ReadFault → Type 0) (index : ℕ) (ms : Members) → OfKeys P keys.Rule (rule_section index ms) → Has P (rule_text_in (rule_section index ms))
unfolding rule_text_in
text_has P index ms h =
    let this = rule_section index ms in
    bind_has P (known_keys keys.Rule this) _ (known_has P keys.Rule this h) (λ _.
    bind_has P (optional (numeral Datapath) this (codes "switch")) _ (optional_has P (numeral Datapath) this (codes "switch") (h.known (codes "switch") refl)) (λ _.
    bind_has P (required (number (UpTo 0xffffffff)) this (codes "priority")) _ (required_has P (number (UpTo 0xffffffff)) this (codes "priority") (h.needed (codes "priority") refl) (h.known (codes "priority") refl)) (λ _.
    bind_has P (optional (text Any) this (codes "write")) _ (optional_has P (text Any) this (codes "write") (h.known (codes "write") refl)) (λ _.
    bind_has P (names_under this (codes "read")) _ (bind_has P (optional text_list this (codes "read")) _ (optional_has P text_list this (codes "read") (h.known (codes "read") refl)) (λ _. tt)) (λ _.
    bind_has P (pattern_in this) _ (pattern_has P index ms h) (λ _. tt))))))

-- each fault of a rule beside those of its keys is of this kind
pub record OfRule (P : ReadFault → Type 0) (index : ℕ) (ms : Members) : Type 0 where
  pub no_slice : IsKey ms (codes "write") ⊎ IsKey ms (codes "read") → P (Refused (UnknownSlice index))
  pub improper : (field : Field) → IsKey ms (field_key field) → P (Improper index field)

named_has : (P : ReadFault → Type 0) (index : ℕ) (o : Option ℕ) → P (Refused (UnknownSlice index)) → Has P (known_slot index o)
named_has P index None no_slice = no_slice
named_has P index (Some slot) no_slice = tt

writer_has : (P : ReadFault → Type 0) (slices : List Slice) (index : ℕ) (ms : Members) (o : Option (List ℕ)) → OfRule P index ms → (is_some o ≡ true → IsKey ms (codes "write")) → Has P (writer_slot slices index o)
writer_has P slices index ms None h there = tt
writer_has P slices index ms (Some name) h there = bind_has P (known_slot index (slot_named slices name)) _ (named_has P index (slot_named slices name) (h.no_slice (inl (there refl)))) (λ _. tt)

slots_has : (P : ReadFault → Type 0) (slices : List Slice) (index : ℕ) (ms : Members) (names : List (List ℕ)) → OfRule P index ms → IsFor names (IsKey ms (codes "read")) → Has P (slots_of slices index names)
slots_has P slices index ms [] h there = tt
slots_has P slices index ms (name ∷ names) h there =
    bind_has P (known_slot index (slot_named slices name)) _ (named_has P index (slot_named slices name) (h.no_slice (inr there))) (λ _.
    bind_has P (slots_of slices index names) _ (slots_has P slices index ms names h (for_any names (IsKey ms (codes "read")) there)) (λ _. tt))

no_improper_has : (P : ReadFault → Type 0) (index : ℕ) (ms : Members) (o : Option Field) → OfRule P index ms → IfSome o (λ field. IsKey ms (field_key field)) → Has P (no_improper index o)
no_improper_has P index ms None h there = tt
no_improper_has P index ms (Some field) h there = h.improper field there

either_there : (ms : Members) (different : Bool) (o : Option Field) (other : Field) → (different ≡ false → IsKey ms (field_key other)) → IfSome o (λ field. IsKey ms (field_key field)) → IfSome (cond different o (Some other)) (λ field. IsKey ms (field_key field))
either_there ms true o other same fields = fields
either_there ms false o other same fields = same refl

from_has : (P : ReadFault → Type 0) (slices : List Slice) (index : ℕ) (ms : Members) (t : RuleText) → OfRule P index ms → TextThere ms t → Has P (rule_from slices index t)
unfolding rule_from
from_has P slices index ms t h there =
    bind_has P (writer_slot slices index t.write) _ (writer_has P slices index ms t.write h there.write) (λ _.
    bind_has_after P (slots_of slices index t.read) _ (slots_has P slices index ms t.read h there.read) (λ slots e.
    bind_has P (proper index slots t.pattern) _
    (no_improper_has P index ms _ h (either_there ms (are_different slots) (first_improper t.pattern) _ (λ same. same_slots_there slices index t.read slots (IsKey ms (codes "read")) e same there.read) (improper_there ms t.pattern there.pattern)))
    (λ _. tt)))

pub rule_has : (P : ReadFault → Type 0) (slices : List Slice) (index : ℕ) (ms : Members) → OfKeys P keys.Rule (rule_section index ms) → OfRule P index ms → Has P (rule_in slices (rule_section index ms))
rule_has P slices index ms of_keys h =
    bind_has_after P (rule_text_in (rule_section index ms)) (rule_from slices index) (text_has P index ms of_keys) (λ t e. from_has P slices index ms t h (text_there (rule_section index ms) t e))

-- ---- port tables

port_text_has : (P : ReadFault → Type 0) (index : ℕ) (ms : Members) → OfKeys P keys.Port (port_section index ms) → Has P (port_text_in (port_section index ms))
unfolding port_text_in
port_text_has P index ms h =
    let this = port_section index ms in
    bind_has P (known_keys keys.Port this) _ (known_has P keys.Port this h) (λ _.
    bind_has P (required (text Any) this (codes "slice")) _ (required_has P (text Any) this (codes "slice") (h.needed (codes "slice") refl) (h.known (codes "slice") refl)) (λ _.
    bind_has P (optional (numeral Datapath) this (codes "switch")) _ (optional_has P (numeral Datapath) this (codes "switch") (h.known (codes "switch") refl)) (λ _.
    bind_has P (required (number (UpTo 0xff00)) this (codes "shown")) _ (required_has P (number (UpTo 0xff00)) this (codes "shown") (h.needed (codes "shown") refl) (h.known (codes "shown") refl)) (λ _.
    bind_has P (required (number (UpTo 0xff00)) this (codes "physical")) _ (required_has P (number (UpTo 0xff00)) this (codes "physical") (h.needed (codes "physical") refl) (h.known (codes "physical") refl)) (λ _. tt)))))

slice_there : (this : SectionView) (t : PortText) → port_text_in this ≡ Ok t → IsKey this.members (codes "slice")
unfolding port_text_in
slice_there this t e =
    let k = bind_ok (known_keys keys.Port this) _ t e in
    let a = bind_ok (required (text Any) this (codes "slice")) _ t k.2 in
    required_there (text Any) this (codes "slice") a.0 a.1

port_slot_has : (P : ReadFault → Type 0) (index : ℕ) (o : Option ℕ) → P (Refused (UnknownPortSlice index)) → Has P (port_slot index o)
port_slot_has P index None no_slice = no_slice
port_slot_has P index (Some slot) no_slice = tt

swap_from_has : (P : ReadFault → Type 0) (slices : List Slice) (index : ℕ) (t : PortText) → P (Refused (UnknownPortSlice index)) → Has P (swap_from slices index t)
unfolding swap_from
swap_from_has P slices index t no_slice = bind_has P (port_slot index (slot_named slices t.slice)) _ (port_slot_has P index (slot_named slices t.slice) no_slice) (λ _. tt)

pub swap_has : (P : ReadFault → Type 0) (slices : List Slice) (index : ℕ) (ms : Members) → OfKeys P keys.Port (port_section index ms) → (IsKey ms (codes "slice") → P (Refused (UnknownPortSlice index))) → Has P (swap_in slices (port_section index ms))
swap_has P slices index ms of_keys no_slice =
    bind_has_after P (port_text_in (port_section index ms)) (swap_from slices index) (port_text_has P index ms of_keys) (λ t e. swap_from_has P slices index t (no_slice (slice_there (port_section index ms) t e)))
