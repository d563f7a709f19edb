-- The match of one header alone.
use Rattle.std.specs.Prelude.{◌≡◌, false, Some, None}
use Rattle.of10_model.specs.declared.pattern.Pattern.{Pattern}
use Rattle.of10_model.specs.Header.{Header}
use Rattle.of10_model.specs.Normal.{has_vlan, has_network, has_service, has_ports}

-- each constraint is equal to the header's field, and the addresses are given whole (OpenFlow 1.0.0, section 3.4)
abbrev pub exact_of : Header → Pattern
exact_of h = record {
  in_port = Some h.in_port;
  dl_src = Some h.dl_src;
  dl_dst = Some h.dl_dst;
  dl_vlan = Some h.dl_vlan;
  dl_vlan_pcp = Some h.dl_vlan_pcp;
  dl_type = Some h.dl_type;
  nw_tos = Some h.nw_tos;
  nw_proto = Some h.nw_proto;
  nw_src = Some (record { bits = 32; value = h.nw_src });
  nw_dst = Some (record { bits = 32; value = h.nw_dst });
  tp_src = Some h.tp_src;
  tp_dst = Some h.tp_dst;
}

-- a header's fields that don't apply are zero: each field without its prerequisite (this proxy's own rule)
pub record IsTidy (h : Header) : Type 0 where
  pub vlan : has_vlan (Some h.dl_vlan) ≡ false → h.dl_vlan_pcp ≡ 0
  pub service : has_service (Some h.dl_type) ≡ false → h.nw_tos ≡ 0
  pub protocol : has_network (Some h.dl_type) ≡ false → h.nw_proto ≡ 0
  pub source : has_network (Some h.dl_type) ≡ false → h.nw_src ≡ 0
  pub destination : has_network (Some h.dl_type) ≡ false → h.nw_dst ≡ 0
  pub from_port : has_ports (Some h.dl_type) (Some h.nw_proto) ≡ false → h.tp_src ≡ 0
  pub to_port : has_ports (Some h.dl_type) (Some h.nw_proto) ≡ false → h.tp_dst ≡ 0

-- no field is constrained
abbrev pub all_free : Pattern
all_free = record {
  in_port = None;
  dl_src = None;
  dl_dst = None;
  dl_vlan = None;
  dl_vlan_pcp = None;
  dl_type = None;
  nw_tos = None;
  nw_proto = None;
  nw_src = None;
  nw_dst = None;
  tp_src = None;
  tp_dst = None;
}
