-- The match that a text says is a normal one, and constrains a field only where the field means something.
use Rattle.std.proofs.Common.{◌≡◌, inl, inr, ℕ, ◌<◌, ◌%◌, ◌^◌, ◌==◌, Bool, true, false, not, ◌&&◌, leb, nat_le, leb-true, eqb-true, true≢false, List, Option, Some, None, IfSome, is_some, Ok, codes, refl, sym, arith}
use Rattle.std.proofs.lemmas.Bool.{and_parts, or_cases}
use Rattle.toml.specs.Data.{Data, string, integer, float, boolean, datetime, array, table}
use Rattle.of10_model.specs.declared.pattern.Prefix.{Prefix}
use Rattle.of10_model.specs.declared.pattern.Pattern.{Pattern}
use Rattle.of10_model.specs.Normal.{is_given, is_whole, is_exact, has_vlan, has_network, has_service, has_ports, kept, kept_prefix, IsBelow, IsService, IsPrefix, IsInRange, IsNormal}
use Rattle.of10_model.proofs.NormalFields.{applied_same}
use Rattle.of10_model.proofs.Twelve.{each_true}
use Rattle.address_text.proofs.Ranges.{hardware_below, prefix_range}
use Rattle.flowspace.specs.Rules.{IsInPort, IsVlan, first_improper}
use Rattle.flowspace.proofs.Improper.{meaningful}
use Rattle.flowspace.proofs.Owning.{IsInPort-is_in_port}
use Rattle.policy_text.specs.declared.values.Numbers.TheVariants.{UpTo, InPort, Vlan, Service}
use Rattle.policy_text.specs.declared.values.Numerals.TheVariants.{Hardware}
use Rattle.policy_text.specs.Reading.{SectionView, optional, is_allowed_number, number, numeral, addresses}
use Rattle.policy_text.specs.Rules.{pattern_in}
use Rattle.policy_text.proofs.RuleParts.{pattern_read}
use Rattle.policy_text.proofs.Steps.{optional_holds, number_is}

-- ---- ranges

hardware_range : (d : Data) (n : ℕ) → numeral Hardware d ≡ Some n → n < 2 ^ 48
hardware_range (string s) n e = hardware_below s n e
hardware_range (integer x) n e = absurd cc
hardware_range (float x) n e = absurd cc
hardware_range (boolean x) n e = absurd cc
hardware_range (datetime x) n e = absurd cc
hardware_range (array x) n e = absurd cc
hardware_range (table x) n e = absurd cc

addresses_range : (d : Data) (p : Prefix) → addresses d ≡ Some p → IsPrefix (Some p)
addresses_range (string s) p e = prefix_range s p e
addresses_range (integer x) p e = absurd cc
addresses_range (float x) p e = absurd cc
addresses_range (boolean x) p e = absurd cc
addresses_range (datetime x) p e = absurd cc
addresses_range (array x) p e = absurd cc
addresses_range (table x) p e = absurd cc

vlan_is : (n : ℕ) → is_allowed_number Vlan n ≡ true → IsVlan n
vlan_is n e = elim (or_cases (leb n 4095) (n == 0xffff) e) [ inl low ↦ inl (leb-true _ _ low) | inr mark ↦ inr (eqb-true _ _ mark) ]

service_is : (n : ℕ) → is_allowed_number Service n ≡ true → IsService (Some n)
service_is n e =
    let (few, whole) = and_parts (nat_le n 252) (n % 4 == 0) e in
    let small = leb-true _ _ few in
    (omega (arith, small), eqb-true _ _ whole)

in_ports : (o : Option ℕ) → IfSome o IsInPort → IsBelow (2 ^ 16) o
in_ports None h = tt
in_ports (Some n) h = elim h [ inl low ↦ omega (arith, low) | inr own ↦ omega (arith, own) ]

vlans : (o : Option ℕ) → IfSome o IsVlan → IsBelow (2 ^ 16) o
vlans None h = tt
vlans (Some n) h = elim h [ inl low ↦ omega (arith, low) | inr mark ↦ omega (arith, mark) ]

below : (limit : ℕ) (o : Option ℕ) → IfSome o (λ n. n < limit) → IsBelow limit o
below limit None h = tt
below limit (Some n) h = h

services : (o : Option ℕ) → IfSome o (λ n. IsService (Some n)) → IsService o
services None h = tt
services (Some n) h = h

prefixes : (o : Option Prefix) → IfSome o (λ p. IsPrefix (Some p)) → IsPrefix o
prefixes None h = tt
prefixes (Some p) h = h

up_to : (high limit n : ℕ) → high < limit → is_allowed_number (UpTo high) n ≡ true → n < limit
up_to high limit n lt e = let le = leb-true _ _ e in omega (arith, lt, le)

-- ---- what is read

number_below : (high limit : ℕ) → high < limit → (this : SectionView) (key : List ℕ) (o : Option ℕ) → optional (number (UpTo high)) this key ≡ Ok o → IsBelow limit o
number_below high limit lt this key o e = below limit o (optional_holds (λ n. n < limit) (number (UpTo high)) (λ d n r. up_to high limit n lt (number_is (UpTo high) d n r)) this key o e)

hardware_read : (this : SectionView) (key : List ℕ) (o : Option ℕ) → optional (numeral Hardware) this key ≡ Ok o → IsBelow (2 ^ 48) o
hardware_read this key o e = below (2 ^ 48) o (optional_holds (λ n. n < 2 ^ 48) (numeral Hardware) hardware_range this key o e)

prefix_read : (this : SectionView) (key : List ℕ) (o : Option Prefix) → optional addresses this key ≡ Ok o → IsPrefix o
prefix_read this key o e = prefixes o (optional_holds (λ p. IsPrefix (Some p)) addresses addresses_range this key o e)

-- a match in range, whose port and VLAN a rule may have
pub record IsWritten (m : Pattern) : Type 0 where
  pub range : IsInRange m
  pub in_port : IfSome m.in_port IsInPort
  pub dl_vlan : IfSome m.dl_vlan IsVlan

pub pattern_sound : (this : SectionView) (m : Pattern) → pattern_in this ≡ Ok m → IsWritten m
pattern_sound this m e =
    let read = pattern_read this m e in
    let in_port = optional_holds IsInPort (number InPort) (λ x n r. IsInPort-is_in_port n (number_is InPort x n r)) this (codes "in_port") m.in_port read.in_port in
    let dl_vlan = optional_holds IsVlan (number Vlan) (λ x n r. vlan_is n (number_is Vlan x n r)) this (codes "dl_vlan") m.dl_vlan read.dl_vlan in
    record {
      range = record {
        in_port = in_ports m.in_port in_port;
        dl_src = hardware_read this (codes "dl_src") m.dl_src read.dl_src;
        dl_dst = hardware_read this (codes "dl_dst") m.dl_dst read.dl_dst;
        dl_vlan = vlans m.dl_vlan dl_vlan;
        dl_vlan_pcp = number_below 7 8 (omega arith) this (codes "dl_vlan_pcp") m.dl_vlan_pcp read.dl_vlan_pcp;
        dl_type = number_below 0xffff (2 ^ 16) (omega arith) this (codes "dl_type") m.dl_type read.dl_type;
        nw_tos = services m.nw_tos (optional_holds (λ n. IsService (Some n)) (number Service) (λ x n r. service_is n (number_is Service x n r)) this (codes "nw_tos") m.nw_tos read.nw_tos);
        nw_proto = number_below 255 256 (omega arith) this (codes "nw_proto") m.nw_proto read.nw_proto;
        nw_src = prefix_read this (codes "nw_src") m.nw_src read.nw_src;
        nw_dst = prefix_read this (codes "nw_dst") m.nw_dst read.nw_dst;
        tp_src = number_below 0xffff (2 ^ 16) (omega arith) this (codes "tp_src") m.tp_src read.tp_src;
        tp_dst = number_below 0xffff (2 ^ 16) (omega arith) this (codes "tp_dst") m.tp_dst read.tp_dst;
      };
      in_port = in_port;
      dl_vlan = dl_vlan;
    }

-- ---- fields that mean something

kept_same : (exact needed : Bool) (o : Option ℕ) → (is_some o && not needed) ≡ false → (exact ≡ true → is_given o ≡ true) → kept exact needed o ≡ o
kept_same exact true o e given = refl
kept_same exact false (Some x) e given = absurd (true≢false e)
kept_same true false None e given = absurd (true≢false (sym (given refl)))
kept_same false false None e given = refl

kept_prefix_same : (exact needed : Bool) (o : Option Prefix) → (is_some o && not needed) ≡ false → (exact ≡ true → is_whole o ≡ true) → kept_prefix exact needed o ≡ o
kept_prefix_same exact true o e given = refl
kept_prefix_same exact false (Some x) e given = absurd (true≢false e)
kept_prefix_same true false None e given = absurd (true≢false (sym (given refl)))
kept_prefix_same false false None e given = refl

pub normal : (m : Pattern) → IsInRange m → first_improper m ≡ None → IsNormal m
normal m range e =
    let means = meaningful m e in
    let all = λ (h : is_exact m ≡ true). each_true (is_given m.in_port) (is_given m.dl_src) (is_given m.dl_dst) (is_given m.dl_vlan) (is_given m.dl_vlan_pcp) (is_given m.dl_type) (is_given m.nw_tos) (is_given m.nw_proto) (is_whole m.nw_src) (is_whole m.nw_dst) (is_given m.tp_src) (is_given m.tp_dst) h in (
      range,
      applied_same m (record {
        on_dl_vlan_pcp = kept_same (is_exact m) (has_vlan m.dl_vlan) m.dl_vlan_pcp means.dl_vlan_pcp (λ h. (all h).is_dl_vlan_pcp);
        on_nw_tos = kept_same (is_exact m) (has_service m.dl_type) m.nw_tos means.nw_tos (λ h. (all h).is_nw_tos);
        on_nw_proto = kept_same (is_exact m) (has_network m.dl_type) m.nw_proto means.nw_proto (λ h. (all h).is_nw_proto);
        on_nw_src = kept_prefix_same (is_exact m) (has_network m.dl_type) m.nw_src means.nw_src (λ h. (all h).is_nw_src);
        on_nw_dst = kept_prefix_same (is_exact m) (has_network m.dl_type) m.nw_dst means.nw_dst (λ h. (all h).is_nw_dst);
        on_tp_src = kept_same (is_exact m) (has_ports m.dl_type m.nw_proto) m.tp_src means.tp_src (λ h. (all h).is_tp_src);
        on_tp_dst = kept_same (is_exact m) (has_ports m.dl_type m.nw_proto) m.tp_dst means.tp_dst (λ h. (all h).is_tp_dst);
      }),
    )
