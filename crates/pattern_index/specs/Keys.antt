-- Which fields a match constrains, and what it says of them. All of this is the proxy's own rule.
use Rattle.std.specs.Prelude.{ℕ, ◌-◌, ◌*◌, ◌/◌, ◌^◌, ◌&&◌, leb, Bool, true, false, is_some, Option, Some, None}
use Rattle.std.specs.declared.cmp.Ordering.{Ordering}
use Rattle.std.specs.Ordering.{nat_cmp, ordering_then}
use Rattle.of10_model.specs.declared.pattern.Prefix.{Prefix}
use Rattle.of10_model.specs.declared.pattern.Pattern.{Pattern}
use Rattle.pattern_index.specs.declared.shape.Shape.{Shape}
use Rattle.pattern_index.specs.declared.key.Key.{Key}
use Rattle.pattern_index.specs.declared.key.EqualFirst.{EqualFirst}

-- how many leading bits of an address a match gives
abbrev pub bits_of : Option Prefix → Option ℕ
bits_of None = None
bits_of (Some p) = Some p.bits

-- the fields that a match constrains
unfoldable pub shape_of : Pattern → Shape
shape_of m = record {
  in_port = is_some m.in_port;
  dl_src = is_some m.dl_src;
  dl_dst = is_some m.dl_dst;
  dl_vlan = is_some m.dl_vlan;
  dl_vlan_pcp = is_some m.dl_vlan_pcp;
  dl_type = is_some m.dl_type;
  nw_tos = is_some m.nw_tos;
  nw_proto = is_some m.nw_proto;
  nw_src = bits_of m.nw_src;
  nw_dst = bits_of m.nw_dst;
  tp_src = is_some m.tp_src;
  tp_dst = is_some m.tp_dst;
}

-- a field that a shape has is constrained
abbrev pub given_field : Bool → Bool → Bool
given_field true constrained = constrained
given_field false constrained = true

-- and as many leading bits of an address as a shape has
abbrev pub given_prefix : Option ℕ → Option Prefix → Bool
given_prefix None prefix = true
given_prefix (Some bits) None = false
given_prefix (Some bits) (Some p) = leb bits p.bits

-- whether a match constrains all fields of a shape
unfoldable pub gives : Shape → Pattern → Bool
gives s m =
    given_prefix s.nw_dst m.nw_dst && (given_prefix s.nw_src m.nw_src && (given_field s.tp_dst (is_some m.tp_dst) && (given_field s.tp_src (is_some m.tp_src) && (
    given_field s.in_port (is_some m.in_port) && (given_field s.dl_vlan (is_some m.dl_vlan) && (given_field s.dl_dst (is_some m.dl_dst) && (given_field s.dl_src (is_some m.dl_src) && (
    given_field s.dl_type (is_some m.dl_type) && (given_field s.dl_vlan_pcp (is_some m.dl_vlan_pcp) && (given_field s.nw_proto (is_some m.nw_proto) && given_field s.nw_tos (is_some m.nw_tos)))))))))))

-- the value of a field that a shape has, and zero for another
abbrev pub picked : Bool → Option ℕ → ℕ
picked true (Some value) = value
picked true None = 0
picked false constraint = 0

-- so many leading bits of an address, the others zero
abbrev pub leading_part : Option ℕ → ℕ → ℕ
leading_part None address = 0
leading_part (Some bits) address = address / 2 ^ (32 - bits) * 2 ^ (32 - bits)

abbrev pub leading_key : Option ℕ → Option Prefix → ℕ
leading_key bits None = 0
leading_key bits (Some p) = leading_part bits p.value

-- the values of a match in the fields of a shape
unfoldable pub key_of : Shape → Pattern → Key
key_of s m = record {
  nw_dst = leading_key s.nw_dst m.nw_dst;
  nw_src = leading_key s.nw_src m.nw_src;
  tp_dst = picked s.tp_dst m.tp_dst;
  tp_src = picked s.tp_src m.tp_src;
  dl_dst = picked s.dl_dst m.dl_dst;
  dl_src = picked s.dl_src m.dl_src;
  in_port = picked s.in_port m.in_port;
  dl_vlan = picked s.dl_vlan m.dl_vlan;
  dl_vlan_pcp = picked s.dl_vlan_pcp m.dl_vlan_pcp;
  dl_type = picked s.dl_type m.dl_type;
  nw_proto = picked s.nw_proto m.nw_proto;
  nw_tos = picked s.nw_tos m.nw_tos;
}

-- the order of keys: by their fields, one after the other, those in which patterns differ most often first
abbrev pub key_cmp : Key → Key → Ordering
key_cmp a b =
    ordering_then (nat_cmp a.nw_dst b.nw_dst) (ordering_then (nat_cmp a.nw_src b.nw_src) (ordering_then (nat_cmp a.tp_dst b.tp_dst) (
    ordering_then (nat_cmp a.tp_src b.tp_src) (ordering_then (nat_cmp a.in_port b.in_port) (ordering_then (nat_cmp a.dl_vlan b.dl_vlan) (
    ordering_then (nat_cmp a.dl_dst b.dl_dst) (ordering_then (nat_cmp a.dl_src b.dl_src) (ordering_then (nat_cmp a.dl_type b.dl_type) (
    ordering_then (nat_cmp a.dl_vlan_pcp b.dl_vlan_pcp) (ordering_then (nat_cmp a.nw_proto b.nw_proto) (nat_cmp a.nw_tos b.nw_tos)))))))))))

-- the same of keys as they are kept
abbrev pub kept_cmp : EqualFirst Key → EqualFirst Key → Ordering
kept_cmp a b = key_cmp a.value b.value
