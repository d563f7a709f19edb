-- Packet headers, as matching sees them.
use Rattle.std.specs.Prelude.{ℕ, ◌≡◌, ◌<◌, ◌%◌, ◌^◌}

-- the twelve fields on which a packet is matched (OpenFlow 1.0.0, section 3.1)
pub record Header : Type 0 where
  pub in_port : ℕ
  pub dl_src : ℕ
  pub dl_dst : ℕ
  pub dl_vlan : ℕ
  pub dl_vlan_pcp : ℕ
  pub dl_type : ℕ
  pub nw_tos : ℕ
  pub nw_proto : ℕ
  pub nw_src : ℕ
  pub nw_dst : ℕ
  pub tp_src : ℕ
  pub tp_dst : ℕ

-- each field lies in its range: addresses of 48 and 32 bits, a VLAN priority of 3 bits, a type of service without its two low bits
pub record IsHeader (h : Header) : Type 0 where
  pub in_port : h.in_port < 2 ^ 16
  pub dl_src : h.dl_src < 2 ^ 48
  pub dl_dst : h.dl_dst < 2 ^ 48
  pub dl_vlan : h.dl_vlan < 2 ^ 16
  pub dl_vlan_pcp : h.dl_vlan_pcp < 8
  pub dl_type : h.dl_type < 2 ^ 16
  pub nw_tos : h.nw_tos < 256
  pub tos_low : h.nw_tos % 4 ≡ 0
  pub nw_proto : h.nw_proto < 256
  pub nw_src : h.nw_src < 2 ^ 32
  pub nw_dst : h.nw_dst < 2 ^ 32
  pub tp_src : h.tp_src < 2 ^ 16
  pub tp_dst : h.tp_dst < 2 ^ 16
