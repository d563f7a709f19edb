-- Where no field is given without what it needs, each means something.
use Rattle.std.proofs.Common.{◌≡◌, Bool, true, false, not, ◌&&◌, cond, true≢false, IsTrue, Option, Some, None, IsSome, IfSome, is_some, refl, sym}
use Rattle.of10_model.specs.declared.pattern.Pattern.{Pattern}
use Rattle.of10_model.specs.Normal.{has_vlan, has_network, has_service, has_ports}
use Rattle.flowspace.specs.declared.fault.Field.{Field}
use Rattle.flowspace.specs.declared.rules.Rule.{Rule}
use Rattle.flowspace.specs.Rules.{IsInPort, IsVlan, IsPlainRule, first_improper}

if_none : (b : Bool) (field : Field) (o : Option Field) → cond b (Some field) o ≡ None → (b ≡ false) × (o ≡ None)
if_none true field o e = absurd cc
if_none false field o e = (refl, e)

-- no field is given without what it needs
pub record IsMeaningful (m : Pattern) : Type 0 where
  pub dl_vlan_pcp : (is_some m.dl_vlan_pcp && not (has_vlan m.dl_vlan)) ≡ false
  pub nw_tos : (is_some m.nw_tos && not (has_service m.dl_type)) ≡ false
  pub nw_proto : (is_some m.nw_proto && not (has_network m.dl_type)) ≡ false
  pub nw_src : (is_some m.nw_src && not (has_network m.dl_type)) ≡ false
  pub nw_dst : (is_some m.nw_dst && not (has_network m.dl_type)) ≡ false
  pub tp_src : (is_some m.tp_src && not (has_ports m.dl_type m.nw_proto)) ≡ false
  pub tp_dst : (is_some m.tp_dst && not (has_ports m.dl_type m.nw_proto)) ≡ false

pub meaningful : (m : Pattern) → first_improper m ≡ None → IsMeaningful m
unfolding first_improper
meaningful m e =
    let a = if_none (is_some m.dl_vlan_pcp && not (has_vlan m.dl_vlan)) _ _ e in
    let b = if_none (is_some m.nw_tos && not (has_service m.dl_type)) _ _ a.1 in
    let c = if_none (is_some m.nw_proto && not (has_network m.dl_type)) _ _ b.1 in
    let d = if_none (is_some m.nw_src && not (has_network m.dl_type)) _ _ c.1 in
    let f = if_none (is_some m.nw_dst && not (has_network m.dl_type)) _ _ d.1 in
    let g = if_none (is_some m.tp_src && not (has_ports m.dl_type m.nw_proto)) _ _ f.1 in
    let h = if_none (is_some m.tp_dst && not (has_ports m.dl_type m.nw_proto)) _ _ g.1 in
    record { dl_vlan_pcp = a.0; nw_tos = b.0; nw_proto = c.0; nw_src = d.0; nw_dst = f.0; tp_src = g.0; tp_dst = h.0 }

needed_is : {A : Type 0} (o : Option A) (needed : Bool) → (is_some o && not needed) ≡ false → IsSome o → IsTrue needed
needed_is None needed e h = absurd (true≢false (sym h))
needed_is (Some x) true e h = refl
needed_is (Some x) false e h = absurd (true≢false e)

-- ---- plain rules

pub plain_rule : (r : Rule) → IfSome r.pattern.in_port IsInPort → IfSome r.pattern.dl_vlan IsVlan → first_improper r.pattern ≡ None → IsPlainRule r
plain_rule r in_port dl_vlan e =
    let m = r.pattern in
    let means = meaningful m e in
    record {
      in_port = in_port;
      dl_vlan = dl_vlan;
      dl_vlan_pcp = needed_is m.dl_vlan_pcp (has_vlan m.dl_vlan) means.dl_vlan_pcp;
      nw_tos = needed_is m.nw_tos (has_service m.dl_type) means.nw_tos;
      nw_proto = needed_is m.nw_proto (has_network m.dl_type) means.nw_proto;
      nw_src = needed_is m.nw_src (has_network m.dl_type) means.nw_src;
      nw_dst = needed_is m.nw_dst (has_network m.dl_type) means.nw_dst;
      tp_src = needed_is m.tp_src (has_ports m.dl_type m.nw_proto) means.tp_src;
      tp_dst = needed_is m.tp_dst (has_ports m.dl_type m.nw_proto) means.tp_dst;
    }

meant : {A : Type 0} (o : Option A) (needed : Bool) → (IsSome o → IsTrue needed) → (is_some o && not needed) ≡ false
meant None needed h = refl
meant (Some x) needed h = rw (h refl) refl

pub none_improper : (r : Rule) → IsPlainRule r → first_improper r.pattern ≡ None
unfolding first_improper
none_improper r plain =
    let m = r.pattern in
    rw (
      meant m.dl_vlan_pcp (has_vlan m.dl_vlan) plain.dl_vlan_pcp,
      meant m.nw_tos (has_service m.dl_type) plain.nw_tos,
      meant m.nw_proto (has_network m.dl_type) plain.nw_proto,
      meant m.nw_src (has_network m.dl_type) plain.nw_src,
      meant m.nw_dst (has_network m.dl_type) plain.nw_dst,
      meant m.tp_src (has_ports m.dl_type m.nw_proto) plain.tp_src,
      meant m.tp_dst (has_ports m.dl_type m.nw_proto) plain.tp_dst,
    )
    refl
