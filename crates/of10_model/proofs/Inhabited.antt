-- Every match in range has a header, and any value that a constraint allows can stand in one.
use Rattle.std.proofs.Common.{ℕ, ◌≡◌, ◌<◌, ◌%◌, ◌^◌, Option, Some, None, refl, arith}
use Rattle.of10_model.specs.declared.pattern.Prefix.{Prefix}
use Rattle.of10_model.specs.declared.pattern.Pattern.{Pattern}
use Rattle.of10_model.specs.Header.{Header, IsHeader}
use Rattle.of10_model.specs.Pattern.{Meets, MeetsPrefix, Has}
use Rattle.of10_model.specs.Normal.{IsBelow, IsService, IsPrefix, IsInRange}

-- a number of a field that its constraint allows
pub record Value (In Allowed : ℕ → Type 0) : Type 0 where
  pub value : ℕ
  pub in_range : In value
  pub allowed : Allowed value

abbrev pub IsTos : ℕ → Type 0
IsTos x = (x < 256) × (x % 4 ≡ 0)

-- a value for each constraint
pub record Values (m : Pattern) : Type 0 where
  pub on_in_port : Value (λ x. x < 2 ^ 16) (Meets m.in_port)
  pub on_dl_src : Value (λ x. x < 2 ^ 48) (Meets m.dl_src)
  pub on_dl_dst : Value (λ x. x < 2 ^ 48) (Meets m.dl_dst)
  pub on_dl_vlan : Value (λ x. x < 2 ^ 16) (Meets m.dl_vlan)
  pub on_dl_vlan_pcp : Value (λ x. x < 8) (Meets m.dl_vlan_pcp)
  pub on_dl_type : Value (λ x. x < 2 ^ 16) (Meets m.dl_type)
  pub on_nw_tos : Value IsTos (Meets m.nw_tos)
  pub on_nw_proto : Value (λ x. x < 256) (Meets m.nw_proto)
  pub on_nw_src : Value (λ x. x < 2 ^ 32) (MeetsPrefix m.nw_src)
  pub on_nw_dst : Value (λ x. x < 2 ^ 32) (MeetsPrefix m.nw_dst)
  pub on_tp_src : Value (λ x. x < 2 ^ 16) (Meets m.tp_src)
  pub on_tp_dst : Value (λ x. x < 2 ^ 16) (Meets m.tp_dst)

abbrev pub header_of : (m : Pattern) → Values m → Header
header_of m s = record {
  in_port = s.on_in_port.value;
  dl_src = s.on_dl_src.value;
  dl_dst = s.on_dl_dst.value;
  dl_vlan = s.on_dl_vlan.value;
  dl_vlan_pcp = s.on_dl_vlan_pcp.value;
  dl_type = s.on_dl_type.value;
  nw_tos = s.on_nw_tos.value;
  nw_proto = s.on_nw_proto.value;
  nw_src = s.on_nw_src.value;
  nw_dst = s.on_nw_dst.value;
  tp_src = s.on_tp_src.value;
  tp_dst = s.on_tp_dst.value;
}

pub IsHeader-header_of : (m : Pattern) (s : Values m) → IsHeader (header_of m s)
IsHeader-header_of m s = record {
  in_port = s.on_in_port.in_range;
  dl_src = s.on_dl_src.in_range;
  dl_dst = s.on_dl_dst.in_range;
  dl_vlan = s.on_dl_vlan.in_range;
  dl_vlan_pcp = s.on_dl_vlan_pcp.in_range;
  dl_type = s.on_dl_type.in_range;
  nw_tos = s.on_nw_tos.in_range.0;
  tos_low = s.on_nw_tos.in_range.1;
  nw_proto = s.on_nw_proto.in_range;
  nw_src = s.on_nw_src.in_range;
  nw_dst = s.on_nw_dst.in_range;
  tp_src = s.on_tp_src.in_range;
  tp_dst = s.on_tp_dst.in_range;
}

pub Has-header_of : (m : Pattern) (s : Values m) → Has m (header_of m s)
Has-header_of m s = record {
  in_port = s.on_in_port.allowed;
  dl_src = s.on_dl_src.allowed;
  dl_dst = s.on_dl_dst.allowed;
  dl_vlan = s.on_dl_vlan.allowed;
  dl_vlan_pcp = s.on_dl_vlan_pcp.allowed;
  dl_type = s.on_dl_type.allowed;
  nw_tos = s.on_nw_tos.allowed;
  nw_proto = s.on_nw_proto.allowed;
  nw_src = s.on_nw_src.allowed;
  nw_dst = s.on_nw_dst.allowed;
  tp_src = s.on_tp_src.allowed;
  tp_dst = s.on_tp_dst.allowed;
}

-- ---- each constraint's own value, and zero where it is free

own : (limit : ℕ) (c : Option ℕ) → 0 < limit → IsBelow limit c → Value (λ x. x < limit) (Meets c)
own limit None h r = record { value = 0; in_range = h; allowed = tt }
own limit (Some v) h r = record { value = v; in_range = r; allowed = refl }

own_service : (c : Option ℕ) → IsService c → Value IsTos (Meets c)
own_service None r = record { value = 0; in_range = (omega arith, refl); allowed = tt }
own_service (Some v) r = record { value = v; in_range = r; allowed = refl }

own_address : (c : Option Prefix) → IsPrefix c → Value (λ x. x < 2 ^ 32) (MeetsPrefix c)
own_address None r = record { value = 0; in_range = omega arith; allowed = tt }
own_address (Some p) r = record { value = p.value; in_range = r.2; allowed = refl }

pub own_values : (m : Pattern) → IsInRange m → Values m
own_values m r = record {
  on_in_port = own (2 ^ 16) m.in_port (omega arith) r.in_port;
  on_dl_src = own (2 ^ 48) m.dl_src (omega arith) r.dl_src;
  on_dl_dst = own (2 ^ 48) m.dl_dst (omega arith) r.dl_dst;
  on_dl_vlan = own (2 ^ 16) m.dl_vlan (omega arith) r.dl_vlan;
  on_dl_vlan_pcp = own (8) m.dl_vlan_pcp (omega arith) r.dl_vlan_pcp;
  on_dl_type = own (2 ^ 16) m.dl_type (omega arith) r.dl_type;
  on_nw_tos = own_service m.nw_tos r.nw_tos;
  on_nw_proto = own (256) m.nw_proto (omega arith) r.nw_proto;
  on_nw_src = own_address m.nw_src r.nw_src;
  on_nw_dst = own_address m.nw_dst r.nw_dst;
  on_tp_src = own (2 ^ 16) m.tp_src (omega arith) r.tp_src;
  on_tp_dst = own (2 ^ 16) m.tp_dst (omega arith) r.tp_dst;
}

-- every match in range has a header
pub has_header : (m : Pattern) → IsInRange m → (h : Header) × IsHeader h × Has m h
has_header m r =
    let values = own_values m r in
    (header_of m values, IsHeader-header_of m values, Has-header_of m values)
