-- The patterns of the makers are normal.
use Rattle.std.proofs.Common.{ℕ, ◌≡◌, ◌^◌, Option, Some, None, refl, arith}
use Rattle.of10_model.specs.declared.pattern.Prefix.{Prefix}
use Rattle.of10_model.specs.Normal.{applied, IsBelow, IsInRange, IsNormal, IsPrefix}
use Rattle.samples.specs.Makers.{pattern_of}

in_range : (in_port : Option ℕ) (net : Option Prefix) (tcp : Option ℕ) → IsBelow (2 ^ 16) in_port → IsPrefix net → IsBelow (2 ^ 16) tcp → IsInRange (pattern_of in_port net tcp)
in_range in_port None None i n t = record { in_port = i; dl_src = tt; dl_dst = tt; dl_vlan = tt; dl_vlan_pcp = tt; dl_type = tt; nw_tos = tt; nw_proto = tt; nw_src = tt; nw_dst = n; tp_src = tt; tp_dst = t }
in_range in_port None (Some port) i n t = record { in_port = i; dl_src = tt; dl_dst = tt; dl_vlan = tt; dl_vlan_pcp = tt; dl_type = omega arith; nw_tos = tt; nw_proto = omega arith; nw_src = tt; nw_dst = n; tp_src = tt; tp_dst = t }
in_range in_port (Some p) None i n t = record { in_port = i; dl_src = tt; dl_dst = tt; dl_vlan = tt; dl_vlan_pcp = tt; dl_type = omega arith; nw_tos = tt; nw_proto = tt; nw_src = tt; nw_dst = n; tp_src = tt; tp_dst = t }
in_range in_port (Some p) (Some port) i n t = record { in_port = i; dl_src = tt; dl_dst = tt; dl_vlan = tt; dl_vlan_pcp = tt; dl_type = omega arith; nw_tos = tt; nw_proto = omega arith; nw_src = tt; nw_dst = n; tp_src = tt; tp_dst = t }

is_applied : (in_port : Option ℕ) (net : Option Prefix) (tcp : Option ℕ) → applied (pattern_of in_port net tcp) ≡ pattern_of in_port net tcp
unfolding applied
is_applied None None None = refl
is_applied None None (Some port) = refl
is_applied None (Some p) None = refl
is_applied None (Some p) (Some port) = refl
is_applied (Some i) None None = refl
is_applied (Some i) None (Some port) = refl
is_applied (Some i) (Some p) None = refl
is_applied (Some i) (Some p) (Some port) = refl

pub pattern_is_normal : (in_port : Option ℕ) (net : Option Prefix) (tcp : Option ℕ) → IsBelow (2 ^ 16) in_port → IsPrefix net → IsBelow (2 ^ 16) tcp → IsNormal (pattern_of in_port net tcp)
pattern_is_normal in_port net tcp i n t = (in_range in_port net tcp i n t, is_applied in_port net tcp)
