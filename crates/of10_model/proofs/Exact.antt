-- The match of one header alone is normal, where the fields that don't apply are zero in it.
use Rattle.std.proofs.Common.{ℕ, ◌≡◌, ◌↔◌, ◌-◌, ◌/◌, ◌%◌, ◌^◌, Bool, true, false, Option, Some, refl, ap, sym, lit≤, arith}
use Rattle.of10_model.specs.Header.{Header, IsHeader}
use Rattle.of10_model.specs.Normal.{applied, has_vlan, has_network, has_service, has_ports, IsInRange, IsNormal}
use Rattle.of10_model.specs.Pattern.{Has}
use Rattle.of10_model.specs.Exact.{exact_of, IsTidy}
use Rattle.of10_model.proofs.Applied.{kept_or, zero_address, same_fields}

kept-exact : {C : Type 0} (zero : C) (needed : Bool) (c : C) → (needed ≡ false → c ≡ zero) → kept_or zero true needed (Some c) ≡ Some c
kept-exact zero true c h = refl
kept-exact zero false c h = ap (λ x. Some x) (sym (h refl))

address-exact : (needed : Bool) (x : ℕ) → (needed ≡ false → x ≡ 0) → kept_or zero_address true needed (Some (record { bits = 32; value = x })) ≡ Some (record { bits = 32; value = x })
address-exact needed x h = kept-exact zero_address needed (record { bits = 32; value = x }) (λ f. ap (λ (y : ℕ). record { bits = 32; value = y }) (h f))

ports-exact : (needed : Option ℕ → Bool) (p : Option ℕ) (proto x : ℕ) → p ≡ Some proto → (needed (Some proto) ≡ false → x ≡ 0) → kept_or 0 true (needed p) (Some x) ≡ Some x
ports-exact needed p proto x e h = rw e (kept-exact 0 (needed (Some proto)) x h)

whole : (x : ℕ) → x % 2 ^ (32 - 32) ≡ 0
whole x = omega arith

IsInRange-exact : (h : Header) → IsHeader h → IsInRange (exact_of h)
IsInRange-exact h r = record {
  in_port = r.in_port;
  dl_src = r.dl_src;
  dl_dst = r.dl_dst;
  dl_vlan = r.dl_vlan;
  dl_vlan_pcp = r.dl_vlan_pcp;
  dl_type = r.dl_type;
  nw_tos = (r.nw_tos, r.tos_low);
  nw_proto = r.nw_proto;
  nw_src = (lit≤ tt, lit≤ tt, r.nw_src, whole h.nw_src);
  nw_dst = (lit≤ tt, lit≤ tt, r.nw_dst, whole h.nw_dst);
  tp_src = r.tp_src;
  tp_dst = r.tp_dst;
}

pub IsNormal-exact : (h : Header) → IsHeader h → IsTidy h → IsNormal (exact_of h)
unfolding applied
IsNormal-exact h r t =
    let kind = Some h.dl_type in
    let proto = kept-exact 0 (has_network kind) h.nw_proto t.protocol in (
      IsInRange-exact h r,
      same_fields (applied (exact_of h)) (exact_of h) (record {
        in_port = refl;
        dl_src = refl;
        dl_dst = refl;
        dl_vlan = refl;
        dl_vlan_pcp = kept-exact 0 (has_vlan (Some h.dl_vlan)) h.dl_vlan_pcp t.vlan;
        dl_type = refl;
        nw_tos = kept-exact 0 (has_service kind) h.nw_tos t.service;
        nw_proto = proto;
        nw_src = address-exact (has_network kind) h.nw_src t.source;
        nw_dst = address-exact (has_network kind) h.nw_dst t.destination;
        tp_src = ports-exact (has_ports kind) _ h.nw_proto h.tp_src proto t.from_port;
        tp_dst = ports-exact (has_ports kind) _ h.nw_proto h.tp_dst proto t.to_port;
      }),
    )

-- ---- the one header

same_whole : (x y : ℕ) → x / 2 ^ (32 - 32) ≡ y / 2 ^ (32 - 32) → x ≡ y
same_whole x y e = omega arith

alone-exact : (h other : Header) → Has (exact_of h) other → other ≡ h
alone-exact h other has =
    rw (has.in_port, has.dl_src, has.dl_dst, has.dl_vlan, has.dl_vlan_pcp, has.dl_type, has.nw_tos, has.nw_proto, same_whole other.nw_src h.nw_src has.nw_src, same_whole other.nw_dst h.nw_dst has.nw_dst, has.tp_src, has.tp_dst) refl

has-exact : (h : Header) → Has (exact_of h) h
has-exact h = record {
  in_port = refl;
  dl_src = refl;
  dl_dst = refl;
  dl_vlan = refl;
  dl_vlan_pcp = refl;
  dl_type = refl;
  nw_tos = refl;
  nw_proto = refl;
  nw_src = refl;
  nw_dst = refl;
  tp_src = refl;
  tp_dst = refl;
}

-- the match of one header has that header alone
pub has_exact_iff : (h other : Header) → Has (exact_of h) other ↔ (other ≡ h)
has_exact_iff h other = (alone-exact h other, λ same. rw same (has-exact h))
