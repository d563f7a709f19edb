-- The test of two matches says whether they are one.
use Rattle.std.proofs.Common.{◌≡◌, ◌↔◌, IsTrue, ℕ, true, ◌==◌, Option, Some, None, refl, sym, subst, eqb-true, eq-eqb}
use Rattle.std.proofs.lemmas.Bool.{true≢false, and_parts, and_from}
use Rattle.of10_model.specs.declared.pattern.Prefix.{Prefix}
use Rattle.of10_model.specs.declared.pattern.Pattern.{Pattern}
use Rattle.of10_model.proofs.Twelve.{each_true, true_of_each}
use Rattle.of10_model.proofs.Applied.{same_parts, same_fields}
use Rattle.of10_model.specs.Same.{same, same_prefix, is_same}

one-same : (a b : Option ℕ) → same a b ≡ true → a ≡ b
one-same None None e = refl
one-same None (Some w) e = absurd (true≢false (sym e))
one-same (Some v) None e = absurd (true≢false (sym e))
one-same (Some v) (Some w) e = let is : v ≡ w = eqb-true v w e in rw is refl

same-one : (a : Option ℕ) → same a a ≡ true
same-one None = refl
same-one (Some v) = eq-eqb v v refl

one-same_prefix : (a b : Option Prefix) → same_prefix a b ≡ true → a ≡ b
one-same_prefix None None e = refl
one-same_prefix None (Some w) e = absurd (true≢false (sym e))
one-same_prefix (Some v) None e = absurd (true≢false (sym e))
one-same_prefix (Some p) (Some q) e =
    let parts = and_parts (p.bits == q.bits) (p.value == q.value) e in
    let is : p ≡ q = same_parts p q (eqb-true p.bits q.bits parts.0) (eqb-true p.value q.value parts.1) in
    rw is refl

same_prefix-one : (a : Option Prefix) → same_prefix a a ≡ true
same_prefix-one None = refl
same_prefix-one (Some p) = and_from (p.bits == p.bits) (p.value == p.value) (eq-eqb p.bits p.bits refl) (eq-eqb p.value p.value refl)

-- matches that pass the test are one; the twelve tests stand in the order of the test
pub one-is_same : (a b : Pattern) → is_same a b ≡ true → a ≡ b
unfolding is_same
one-is_same a b e =
    let each = each_true (same_prefix a.nw_dst b.nw_dst) (same_prefix a.nw_src b.nw_src) (same a.tp_dst b.tp_dst) (same a.tp_src b.tp_src) (same a.dl_dst b.dl_dst) (same a.dl_src b.dl_src) (same a.in_port b.in_port) (same a.dl_vlan b.dl_vlan) (same a.dl_vlan_pcp b.dl_vlan_pcp) (same a.dl_type b.dl_type) (same a.nw_proto b.nw_proto) (same a.nw_tos b.nw_tos) e in
    same_fields a b (record {
      nw_dst = one-same_prefix a.nw_dst b.nw_dst each.is_in_port;
      nw_src = one-same_prefix a.nw_src b.nw_src each.is_dl_src;
      tp_dst = one-same a.tp_dst b.tp_dst each.is_dl_dst;
      tp_src = one-same a.tp_src b.tp_src each.is_dl_vlan;
      dl_dst = one-same a.dl_dst b.dl_dst each.is_dl_vlan_pcp;
      dl_src = one-same a.dl_src b.dl_src each.is_dl_type;
      in_port = one-same a.in_port b.in_port each.is_nw_tos;
      dl_vlan = one-same a.dl_vlan b.dl_vlan each.is_nw_proto;
      dl_vlan_pcp = one-same a.dl_vlan_pcp b.dl_vlan_pcp each.is_nw_src;
      dl_type = one-same a.dl_type b.dl_type each.is_nw_dst;
      nw_proto = one-same a.nw_proto b.nw_proto each.is_tp_src;
      nw_tos = one-same a.nw_tos b.nw_tos each.is_tp_dst;
    })

-- a match passes with itself
pub is_same-one : (a : Pattern) → is_same a a ≡ true
unfolding is_same
is_same-one a =
    true_of_each (same_prefix a.nw_dst a.nw_dst) (same_prefix a.nw_src a.nw_src) (same a.tp_dst a.tp_dst) (same a.tp_src a.tp_src) (same a.dl_dst a.dl_dst) (same a.dl_src a.dl_src) (same a.in_port a.in_port) (same a.dl_vlan a.dl_vlan) (same a.dl_vlan_pcp a.dl_vlan_pcp) (same a.dl_type a.dl_type) (same a.nw_proto a.nw_proto) (same a.nw_tos a.nw_tos) (record {
      is_in_port = same_prefix-one a.nw_dst;
      is_dl_src = same_prefix-one a.nw_src;
      is_dl_dst = same-one a.tp_dst;
      is_dl_vlan = same-one a.tp_src;
      is_dl_vlan_pcp = same-one a.dl_dst;
      is_dl_type = same-one a.dl_src;
      is_nw_tos = same-one a.in_port;
      is_nw_proto = same-one a.dl_vlan;
      is_nw_src = same-one a.dl_vlan_pcp;
      is_nw_dst = same-one a.dl_type;
      is_tp_src = same-one a.nw_proto;
      is_tp_dst = same-one a.nw_tos;
    })

-- the test answers by equality
pub is_same_iff : (a b : Pattern) → IsTrue (is_same a b) ↔ (a ≡ b)
is_same_iff a b = (one-is_same a b, λ same. subst (λ m. IsTrue (is_same a m)) same (is_same-one a))
