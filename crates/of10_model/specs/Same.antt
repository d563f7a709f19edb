-- When two matches are one.
use Rattle.std.specs.Prelude.{ℕ, ◌==◌, ◌&&◌, Bool, true, false, Option, Some, None}
use Rattle.of10_model.specs.declared.pattern.Prefix.{Prefix}
use Rattle.of10_model.specs.declared.pattern.Pattern.{Pattern}

-- two constraints are one
abbrev pub same : Option ℕ → Option ℕ → Bool
same None None = true
same None (Some w) = false
same (Some v) None = false
same (Some v) (Some w) = v == w

-- two constraints on an address are one
abbrev pub same_prefix : Option Prefix → Option Prefix → Bool
same_prefix None None = true
same_prefix None (Some q) = false
same_prefix (Some p) None = false
same_prefix (Some p) (Some q) = p.bits == q.bits && p.value == q.value

-- two matches are one: each field has one constraint in both. The fields in which matches of one slice differ most often come first, as in the code that tests this; the order says nothing, since laws::sameness_is_decided has it that this is equality
unfoldable pub is_same : Pattern → Pattern → Bool
is_same a b =
    same_prefix a.nw_dst b.nw_dst && same_prefix a.nw_src b.nw_src && same a.tp_dst b.tp_dst && same a.tp_src b.tp_src
    && same a.dl_dst b.dl_dst && same a.dl_src b.dl_src && same a.in_port b.in_port && same a.dl_vlan b.dl_vlan
    && same a.dl_vlan_pcp b.dl_vlan_pcp && same a.dl_type b.dl_type && same a.nw_proto b.nw_proto && same a.nw_tos b.nw_tos
