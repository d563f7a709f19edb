-- Matches as sets of headers.
use Rattle.std.specs.Prelude.{ℕ, ◌≡◌, ◌-◌, ◌*◌, ◌/◌, ◌^◌, ◌==◌, ◌&&◌, Bool, true, Option, Some, None}
use Rattle.of10_model.specs.declared.pattern.Prefix.{Prefix}
use Rattle.of10_model.specs.declared.pattern.Pattern.{Pattern}
use Rattle.of10_model.specs.Header.{Header}

-- the prefix that an address has: so many leading bits
abbrev pub leading_bits : ℕ → ℕ → Prefix
leading_bits address bits = record { bits = bits; value = address / 2 ^ (32 - bits) * 2 ^ (32 - bits) }

-- a free constraint holds of each value, another of its own value alone
abbrev pub Meets : Option ℕ → ℕ → Type 0
Meets None x = Unit {0}
Meets (Some v) x = x ≡ v

-- a prefix holds of the addresses with the same leading bits
abbrev pub MeetsPrefix : Option Prefix → ℕ → Type 0
MeetsPrefix None x = Unit {0}
MeetsPrefix (Some p) x = x / 2 ^ (32 - p.bits) ≡ p.value / 2 ^ (32 - p.bits)

-- a header is in a match where each constraint holds of its field (OpenFlow 1.0.0, section 3.4)
pub record Has (m : Pattern) (h : Header) : Type 0 where
  pub in_port : Meets m.in_port h.in_port
  pub dl_src : Meets m.dl_src h.dl_src
  pub dl_dst : Meets m.dl_dst h.dl_dst
  pub dl_vlan : Meets m.dl_vlan h.dl_vlan
  pub dl_vlan_pcp : Meets m.dl_vlan_pcp h.dl_vlan_pcp
  pub dl_type : Meets m.dl_type h.dl_type
  pub nw_tos : Meets m.nw_tos h.nw_tos
  pub nw_proto : Meets m.nw_proto h.nw_proto
  pub nw_src : MeetsPrefix m.nw_src h.nw_src
  pub nw_dst : MeetsPrefix m.nw_dst h.nw_dst
  pub tp_src : Meets m.tp_src h.tp_src
  pub tp_dst : Meets m.tp_dst h.tp_dst

-- ---- the same as tests that compute

-- whether a constraint holds of a value
abbrev pub meets : Option ℕ → ℕ → Bool
meets None x = true
meets (Some v) x = x == v

-- an address begins as a prefix does
abbrev pub begins_as : Prefix → ℕ → Bool
begins_as p x = x / 2 ^ (32 - p.bits) == p.value / 2 ^ (32 - p.bits)

-- whether a prefix holds of an address
abbrev pub meets_prefix : Option Prefix → ℕ → Bool
meets_prefix None x = true
meets_prefix (Some p) x = begins_as p x

-- whether a header is in a match: each constraint holds of its field
unfoldable pub has : Pattern → Header → Bool
has m h =
    meets m.in_port h.in_port && meets m.dl_src h.dl_src && meets m.dl_dst h.dl_dst && meets m.dl_vlan h.dl_vlan
    && meets m.dl_vlan_pcp h.dl_vlan_pcp && meets m.dl_type h.dl_type && meets m.nw_tos h.nw_tos && meets m.nw_proto h.nw_proto
    && meets_prefix m.nw_src h.nw_src && meets_prefix m.nw_dst h.nw_dst && meets m.tp_src h.tp_src && meets m.tp_dst h.tp_dst
