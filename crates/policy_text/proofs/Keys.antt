-- Which keys a table has, seen from what its reading gives.
use Rattle.std.proofs.Common.{◌≡◌, ◌⊎◌, inl, inr, ℕ, Bool, true, false, ◌&&◌, not, cond, true≢false, List, [], ◌∷◌, Option, Some, None, IfSome, is_some, Ok, Ordering, Less, Equal, Greater, nat_cmp, codes, unwrap_or, refl, sym, ap, ◌∙◌, subst}
use Rattle.std.specs.Cmp.Lexicographic.{slice_cmp}
use Rattle.std.specs.Ordering.{is_eq}
use Rattle.std.proofs.lemmas.Cmp.{nat_list_cmp_total, tied_itself}
use Rattle.std.proofs.lemmas.Map.Text.{is_eq-slice_cmp}
use Rattle.std.proofs.lemmas.Slice.Eq.{bytes_eq-Decides}
use Rattle.toml.specs.Data.{Data, Members, no_members, member, get_member}
use Rattle.of10_model.specs.declared.pattern.Pattern.{Pattern}
use Rattle.of10_model.specs.Normal.{has_vlan, has_network, has_service, has_ports}
use Rattle.of10_model.proofs.Results.{bind_ok, ok_is}
use Rattle.flowspace.specs.declared.fault.Field.{Field}
use Rattle.flowspace.specs.declared.fault.Field.TheVariants.{DlVlanPcp, NwTos, NwProto, NwSrc, NwDst, TpSrc, TpDst}
use Rattle.flowspace.specs.declared.slices.Slice.{Slice}
use Rattle.flowspace.specs.Rules.{first_improper}
use Rattle.policy_text.specs.declared.values.Numbers.TheVariants.{UpTo, Service}
use Rattle.policy_text.specs.declared.values.Texts.TheVariants.{Any}
use Rattle.policy_text.specs.Keys.{IsKey}
use Rattle.policy_text.specs.Places.{field_key}
use Rattle.policy_text.specs.Reading.{SectionView, key_place, demanded, allowed, required, optional, number, addresses, text, text_list}
use Rattle.policy_text.specs.Rules.{slots_of, are_different, RuleText, names_under, rule_text_in}
use Rattle.policy_text.proofs.RuleParts.{PatternRead, pattern_read, rule_read}

-- ---- look-ups

pub equal_is : (a b : List ℕ) → slice_cmp nat_cmp a b ≡ Equal → a ≡ b
equal_is a b e = (bytes_eq-Decides a b).0 (sym (is_eq-slice_cmp a b) ∙ ap is_eq e)

there_by : (key other : List ℕ) (o : Ordering) (rest : Members) (d e : Data) → slice_cmp nat_cmp key other ≡ o → get_member key (member other d rest) ≡ Some e → (get_member key rest ≡ Some e → IsKey rest key) → (other ≡ key) ⊎ IsKey rest key
there_by key other Less rest d e at found more = inr (more (rw at at found))
there_by key other Equal rest d e at found more = inl (sym (equal_is key other at))
there_by key other Greater rest d e at found more = inr (more (rw at at found))

pub is_there : (key : List ℕ) (ms : Members) (d : Data) → get_member key ms ≡ Some d → IsKey ms key
is_there key no_members d e = absurd cc
is_there key (member other x rest) d e = there_by key other (slice_cmp nat_cmp key other) rest x d refl e (is_there key rest d)

found_itself : (key other : List ℕ) (d : Data) (rest : Members) → other ≡ key → get_member key (member other d rest) ≡ Some d
found_itself key other d rest e =
    let same : slice_cmp nat_cmp key other ≡ Equal = ap (slice_cmp nat_cmp key) e ∙ tied_itself nat_list_cmp_total key in
    rw same refl

none_after : (key other : List ℕ) (o : Ordering) (rest : Members) (d : Data) → slice_cmp nat_cmp key other ≡ o → get_member key (member other d rest) ≡ None → get_member key rest ≡ None
none_after key other Less rest d at none = rw at at none
none_after key other Equal rest d at none = absurd (let found : get_member key (member other d rest) ≡ Some d = rw at refl in cc)
none_after key other Greater rest d at none = rw at at none

pub not_there : (key : List ℕ) (ms : Members) → get_member key ms ≡ None → IsKey ms key → ⊥
not_there key no_members e there = there
not_there key (member other d rest) e (inl same) = let found = found_itself key other d rest same in absurd cc
not_there key (member other d rest) e (inr there) = not_there key rest (none_after key other (slice_cmp nat_cmp key other) rest d refl e) there

-- ---- a key under which a value was read is there

allowed_there : {A : Type 0} (read : Data → Option A) (this : SectionView) (key : List ℕ) (o : Option Data) (y : Option A) → get_member key this.members ≡ o → allowed read (key_place this key) o ≡ Ok y → is_some y ≡ true → IsKey this.members key
allowed_there read this key None y at e some = let same = ok_is None y e in absurd cc
allowed_there read this key (Some d) y at e some = is_there key this.members d at

pub optional_there : {A : Type 0} (read : Data → Option A) (this : SectionView) (key : List ℕ) (y : Option A) → optional read this key ≡ Ok y → is_some y ≡ true → IsKey this.members key
optional_there read this key y e some = allowed_there read this key (get_member key this.members) y refl e some

demanded_there : {A : Type 0} (read : Data → Option A) (this : SectionView) (key : List ℕ) (o : Option Data) (y : A) → get_member key this.members ≡ o → demanded read (key_place this key) o ≡ Ok y → IsKey this.members key
demanded_there read this key None y at e = absurd cc
demanded_there read this key (Some d) y at e = is_there key this.members d at

pub required_there : {A : Type 0} (read : Data → Option A) (this : SectionView) (key : List ℕ) (y : A) → required read this key ≡ Ok y → IsKey this.members key
required_there read this key y e = demanded_there read this key (get_member key this.members) y refl e

-- ---- the keys of a rule

-- there are names, and so the key
abbrev pub IsFor : List (List ℕ) → Type 0 → Type 0
IsFor [] K = Unit {0}
IsFor (name ∷ rest) K = K

pub for_any : (names : List (List ℕ)) (K : Type 0) → K → IsFor names K
for_any [] K k = tt
for_any (name ∷ rest) K k = k

names_there : (this : SectionView) (key : List ℕ) (o : Option (List (List ℕ))) → optional text_list this key ≡ Ok o → IsFor (unwrap_or o []) (IsKey this.members key)
names_there this key None e = tt
names_there this key (Some names) e = for_any names (IsKey this.members key) (optional_there text_list this key (Some names) e refl)

under_there : (this : SectionView) (key : List ℕ) (names : List (List ℕ)) → names_under this key ≡ Ok names → IsFor names (IsKey this.members key)
under_there this key names e =
    let a = bind_ok (optional text_list this key) _ names e in
    subst (λ l. IsFor l (IsKey this.members key)) (ok_is (unwrap_or a.0 []) names a.2) (names_there this key a.0 a.1)

-- each field of a match that may be improper stands in the table where it is given
pub record FieldsThere (IsIn : List ℕ → Type 0) (m : Pattern) : Type 0 where
  pub dl_vlan_pcp : is_some m.dl_vlan_pcp ≡ true → IsIn (codes "dl_vlan_pcp")
  pub nw_tos : is_some m.nw_tos ≡ true → IsIn (codes "nw_tos")
  pub nw_proto : is_some m.nw_proto ≡ true → IsIn (codes "nw_proto")
  pub nw_src : is_some m.nw_src ≡ true → IsIn (codes "nw_src")
  pub nw_dst : is_some m.nw_dst ≡ true → IsIn (codes "nw_dst")
  pub tp_src : is_some m.tp_src ≡ true → IsIn (codes "tp_src")
  pub tp_dst : is_some m.tp_dst ≡ true → IsIn (codes "tp_dst")

fields_there : (this : SectionView) (m : Pattern) → PatternRead this m → FieldsThere (IsKey this.members) m
fields_there this m read = record {
  dl_vlan_pcp = optional_there (number (UpTo 7)) this (codes "dl_vlan_pcp") m.dl_vlan_pcp read.dl_vlan_pcp;
  nw_tos = optional_there (number Service) this (codes "nw_tos") m.nw_tos read.nw_tos;
  nw_proto = optional_there (number (UpTo 255)) this (codes "nw_proto") m.nw_proto read.nw_proto;
  nw_src = optional_there addresses this (codes "nw_src") m.nw_src read.nw_src;
  nw_dst = optional_there addresses this (codes "nw_dst") m.nw_dst read.nw_dst;
  tp_src = optional_there (number (UpTo 0xffff)) this (codes "tp_src") m.tp_src read.tp_src;
  tp_dst = optional_there (number (UpTo 0xffff)) this (codes "tp_dst") m.tp_dst read.tp_dst;
}

-- the names and those fields stand in the table
pub record TextThere (ms : Members) (t : RuleText) : Type 0 where
  pub write : is_some t.write ≡ true → IsKey ms (codes "write")
  pub read : IsFor t.read (IsKey ms (codes "read"))
  pub pattern : FieldsThere (IsKey ms) t.pattern

pub text_there : (this : SectionView) (t : RuleText) → rule_text_in this ≡ Ok t → TextThere this.members t
text_there this t e =
    let read = rule_read this t e in
    record {
      write = optional_there (text Any) this (codes "write") t.write read.write;
      read = under_there this (codes "read") t.read read.read;
      pattern = fields_there this t.pattern (pattern_read this t.pattern read.pattern);
    }

-- slots of which two are the same came from names
pub same_slots_there : (slices : List Slice) (index : ℕ) (names : List (List ℕ)) (slots : List ℕ) (K : Type 0) → slots_of slices index names ≡ Ok slots → are_different slots ≡ false → IsFor names K → K
same_slots_there slices index [] slots K e same k = let none = ok_is [] slots e in absurd (true≢false (ap are_different none ∙ same))
same_slots_there slices index (name ∷ names) slots K e same k = k

-- ---- the improper field is given

next_field : (Q : Field → Type 0) (given : Bool) (needed : Bool) (field : Field) (o : Option Field) → (given ≡ true → Q field) → IfSome o Q → IfSome (cond (given && needed) (Some field) o) Q
next_field Q true true field o here more = here refl
next_field Q true false field o here more = more
next_field Q false needed field o here more = more

pub improper_there : (ms : Members) (m : Pattern) → FieldsThere (IsKey ms) m → IfSome (first_improper m) (λ field. IsKey ms (field_key field))
unfolding first_improper
improper_there ms m there =
    let Q : Field → Type 0 = λ field. IsKey ms (field_key field) in
    next_field Q (is_some m.dl_vlan_pcp) (not (has_vlan m.dl_vlan)) DlVlanPcp _ there.dl_vlan_pcp
    (next_field Q (is_some m.nw_tos) (not (has_service m.dl_type)) NwTos _ there.nw_tos
    (next_field Q (is_some m.nw_proto) (not (has_network m.dl_type)) NwProto _ there.nw_proto
    (next_field Q (is_some m.nw_src) (not (has_network m.dl_type)) NwSrc _ there.nw_src
    (next_field Q (is_some m.nw_dst) (not (has_network m.dl_type)) NwDst _ there.nw_dst
    (next_field Q (is_some m.tp_src) (not (has_ports m.dl_type m.nw_proto)) TpSrc _ there.tp_src
    (next_field Q (is_some m.tp_dst) (not (has_ports m.dl_type m.nw_proto)) TpDst None there.tp_dst tt))))))
