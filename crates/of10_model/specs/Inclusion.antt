-- Whether each header of one match is in another.
use Rattle.std.specs.Prelude.{ℕ, ◌==◌, ◌&&◌, leb, Bool, true, false, Option, Some, None}
use Rattle.of10_model.specs.declared.pattern.Prefix.{Prefix}
use Rattle.of10_model.specs.declared.pattern.Pattern.{Pattern}
use Rattle.of10_model.specs.Header.{Header, IsHeader}
use Rattle.of10_model.specs.Pattern.{Has, begins_as}

-- each header of b is in a
abbrev pub Includes : Pattern → Pattern → Type 0
Includes a b = (h : Header) → IsHeader h → Has b h → Has a h

-- ---- the same as a test that computes

-- whether the first constraint holds of each value of the second
abbrev pub covers : Option ℕ → Option ℕ → Bool
covers None d = true
covers (Some v) None = false
covers (Some v) (Some w) = w == v

-- whether the first prefix holds of each address of the second: the second is no shorter and begins as the first
abbrev pub covers_prefix : Option Prefix → Option Prefix → Bool
covers_prefix None q = true
covers_prefix (Some p) None = false
covers_prefix (Some p) (Some q) = leb p.bits q.bits && begins_as p q.value

-- whether each header of b is in a: each constraint of a holds of each value of b's
unfoldable pub includes_of : Pattern → Pattern → Bool
includes_of a b =
    covers a.in_port b.in_port && covers a.dl_src b.dl_src && covers a.dl_dst b.dl_dst && covers a.dl_vlan b.dl_vlan
    && covers a.dl_vlan_pcp b.dl_vlan_pcp && covers a.dl_type b.dl_type && covers a.nw_tos b.nw_tos && covers a.nw_proto b.nw_proto
    && covers_prefix a.nw_src b.nw_src && covers_prefix a.nw_dst b.nw_dst && covers a.tp_src b.tp_src && covers a.tp_dst b.tp_dst

-- the match with its in_port read as any
abbrev pub any_in_port : Pattern → Pattern
any_in_port m = record m { in_port = None }
