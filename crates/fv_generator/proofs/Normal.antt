-- Matches that constrain only what means something are in normal form.
use Rattle.std.proofs.Common.{ℕ, ◌≡◌, ◌<◌, ◌^◌, refl, arith}
use Rattle.of10_model.specs.Normal.{applied, IsInRange, IsNormal}
use Rattle.fv_generator.specs.Packets.{tcp_from, tcp_to}

from_is_applied : (port : ℕ) → applied (tcp_from port) ≡ tcp_from port
unfolding applied
from_is_applied port = refl

to_is_applied : (port : ℕ) → applied (tcp_to port) ≡ tcp_to port
unfolding applied
to_is_applied port = refl

from_is_in_range : (port : ℕ) → port < 2 ^ 16 → IsInRange (tcp_from port)
from_is_in_range port small = record { in_port = tt; dl_src = tt; dl_dst = tt; dl_vlan = tt; dl_vlan_pcp = tt; dl_type = omega arith; nw_tos = tt; nw_proto = omega arith; nw_src = tt; nw_dst = tt; tp_src = small; tp_dst = tt }

to_is_in_range : (port : ℕ) → port < 2 ^ 16 → IsInRange (tcp_to port)
to_is_in_range port small = record { in_port = tt; dl_src = tt; dl_dst = tt; dl_vlan = tt; dl_vlan_pcp = tt; dl_type = omega arith; nw_tos = tt; nw_proto = omega arith; nw_src = tt; nw_dst = tt; tp_src = tt; tp_dst = small }

pub from_is_normal : (port : ℕ) → port < 2 ^ 16 → IsNormal (tcp_from port)
from_is_normal port small = (from_is_in_range port small, from_is_applied port)

pub to_is_normal : (port : ℕ) → port < 2 ^ 16 → IsNormal (tcp_to port)
to_is_normal port small = (to_is_in_range port small, to_is_applied port)
