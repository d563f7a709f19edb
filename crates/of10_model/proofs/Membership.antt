-- The test of membership answers by the relation.
use Rattle.std.proofs.Common.{ℕ, ◌↔◌, ◌-◌, ◌/◌, ◌^◌, IsTrue, Option, Some, None, refl, eqb-true, eq-eqb}
use Rattle.of10_model.specs.declared.pattern.Prefix.{Prefix}
use Rattle.of10_model.specs.declared.pattern.Pattern.{Pattern}
use Rattle.of10_model.specs.Header.{Header}
use Rattle.of10_model.specs.Pattern.{Meets, MeetsPrefix, Has, meets, meets_prefix, has}
use Rattle.of10_model.proofs.Twelve.{each_true, true_of_each}

pub Meets-meets : (c : Option ℕ) (x : ℕ) → IsTrue (meets c x) → Meets c x
Meets-meets None x h = tt
Meets-meets (Some v) x h = eqb-true x v h

pub meets-Meets : (c : Option ℕ) (x : ℕ) → Meets c x → IsTrue (meets c x)
meets-Meets None x h = refl
meets-Meets (Some v) x h = eq-eqb x v h

pub MeetsPrefix-meets_prefix : (c : Option Prefix) (x : ℕ) → IsTrue (meets_prefix c x) → MeetsPrefix c x
MeetsPrefix-meets_prefix None x h = tt
MeetsPrefix-meets_prefix (Some p) x h = eqb-true (x / 2 ^ (32 - p.bits)) (p.value / 2 ^ (32 - p.bits)) h

pub meets_prefix-MeetsPrefix : (c : Option Prefix) (x : ℕ) → MeetsPrefix c x → IsTrue (meets_prefix c x)
meets_prefix-MeetsPrefix None x h = refl
meets_prefix-MeetsPrefix (Some p) x h = eq-eqb (x / 2 ^ (32 - p.bits)) (p.value / 2 ^ (32 - p.bits)) h

-- a header that passes the test is in the match
pub Has-has : (m : Pattern) (h : Header) → IsTrue (has m h) → Has m h
unfolding has
Has-has m h t =
    let each = each_true (meets m.in_port h.in_port) (meets m.dl_src h.dl_src) (meets m.dl_dst h.dl_dst) (meets m.dl_vlan h.dl_vlan) (meets m.dl_vlan_pcp h.dl_vlan_pcp) (meets m.dl_type h.dl_type) (meets m.nw_tos h.nw_tos) (meets m.nw_proto h.nw_proto) (meets_prefix m.nw_src h.nw_src) (meets_prefix m.nw_dst h.nw_dst) (meets m.tp_src h.tp_src) (meets m.tp_dst h.tp_dst) t in
    record {
      in_port = Meets-meets m.in_port h.in_port each.is_in_port;
      dl_src = Meets-meets m.dl_src h.dl_src each.is_dl_src;
      dl_dst = Meets-meets m.dl_dst h.dl_dst each.is_dl_dst;
      dl_vlan = Meets-meets m.dl_vlan h.dl_vlan each.is_dl_vlan;
      dl_vlan_pcp = Meets-meets m.dl_vlan_pcp h.dl_vlan_pcp each.is_dl_vlan_pcp;
      dl_type = Meets-meets m.dl_type h.dl_type each.is_dl_type;
      nw_tos = Meets-meets m.nw_tos h.nw_tos each.is_nw_tos;
      nw_proto = Meets-meets m.nw_proto h.nw_proto each.is_nw_proto;
      nw_src = MeetsPrefix-meets_prefix m.nw_src h.nw_src each.is_nw_src;
      nw_dst = MeetsPrefix-meets_prefix m.nw_dst h.nw_dst each.is_nw_dst;
      tp_src = Meets-meets m.tp_src h.tp_src each.is_tp_src;
      tp_dst = Meets-meets m.tp_dst h.tp_dst each.is_tp_dst;
    }

-- a header of the match passes the test
pub has-Has : (m : Pattern) (h : Header) → Has m h → IsTrue (has m h)
unfolding has
has-Has m h t =
    true_of_each (meets m.in_port h.in_port) (meets m.dl_src h.dl_src) (meets m.dl_dst h.dl_dst) (meets m.dl_vlan h.dl_vlan) (meets m.dl_vlan_pcp h.dl_vlan_pcp) (meets m.dl_type h.dl_type) (meets m.nw_tos h.nw_tos) (meets m.nw_proto h.nw_proto) (meets_prefix m.nw_src h.nw_src) (meets_prefix m.nw_dst h.nw_dst) (meets m.tp_src h.tp_src) (meets m.tp_dst h.tp_dst)
    (record {
      is_in_port = meets-Meets m.in_port h.in_port t.in_port;
      is_dl_src = meets-Meets m.dl_src h.dl_src t.dl_src;
      is_dl_dst = meets-Meets m.dl_dst h.dl_dst t.dl_dst;
      is_dl_vlan = meets-Meets m.dl_vlan h.dl_vlan t.dl_vlan;
      is_dl_vlan_pcp = meets-Meets m.dl_vlan_pcp h.dl_vlan_pcp t.dl_vlan_pcp;
      is_dl_type = meets-Meets m.dl_type h.dl_type t.dl_type;
      is_nw_tos = meets-Meets m.nw_tos h.nw_tos t.nw_tos;
      is_nw_proto = meets-Meets m.nw_proto h.nw_proto t.nw_proto;
      is_nw_src = meets_prefix-MeetsPrefix m.nw_src h.nw_src t.nw_src;
      is_nw_dst = meets_prefix-MeetsPrefix m.nw_dst h.nw_dst t.nw_dst;
      is_tp_src = meets-Meets m.tp_src h.tp_src t.tp_src;
      is_tp_dst = meets-Meets m.tp_dst h.tp_dst t.tp_dst;
    })

-- the test answers by the relation
pub has_iff_Has : (m : Pattern) (h : Header) → IsTrue (has m h) ↔ Has m h
has_iff_Has m h = (Has-has m h, has-Has m h)
