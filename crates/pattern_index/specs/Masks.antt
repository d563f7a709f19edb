-- The bits of a header that the keys of a shape have. All of this is the proxy's own rule.
use Rattle.std.specs.Prelude.{ℕ, ◌-◌, ◌^◌, Bool, true, false, Option, Some, None}
use Rattle.pattern_index.specs.declared.shape.Shape.{Shape}
use Rattle.pattern_index.specs.declared.header_shape.Masks.{Masks}

-- all bits of a field that a shape has, of so many, and none of another
abbrev pub ones : ℕ → Bool → ℕ
ones width true = 2 ^ width - 1
ones width false = 0

-- so many leading bits of an address
abbrev pub leading_ones : Option ℕ → ℕ
leading_ones None = 0
leading_ones (Some bits) = 2 ^ 32 - 2 ^ (32 - bits)

-- the bits of each field
unfoldable pub masks_of : Shape → Masks
masks_of s = record {
  nw_dst = leading_ones s.nw_dst;
  nw_src = leading_ones s.nw_src;
  tp_dst = ones 16 s.tp_dst;
  tp_src = ones 16 s.tp_src;
  dl_dst = ones 64 s.dl_dst;
  dl_src = ones 64 s.dl_src;
  in_port = ones 16 s.in_port;
  dl_vlan = ones 16 s.dl_vlan;
  dl_vlan_pcp = ones 8 s.dl_vlan_pcp;
  dl_type = ones 16 s.dl_type;
  nw_proto = ones 8 s.nw_proto;
  nw_tos = ones 8 s.nw_tos;
}
