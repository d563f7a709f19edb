-- Two matches have no header in common exactly where some field's constraints allow no value together.
use Rattle.std.proofs.Common.{◌≡◌, ℕ, ◌||◌, Bool, true, false, Option, Some, None, is_none, refl, ◌∙◌, arith}
use Rattle.of10_model.specs.declared.pattern.Prefix.{Prefix}
use Rattle.of10_model.specs.declared.pattern.Pattern.{Pattern}
use Rattle.of10_model.specs.Meet.{both, both_prefix, ◌>>=◌, meet_of, is_disjoint}

-- there is no twelve-fold answer exactly where one of the twelve is missing
by_parts : (in_port dl_src dl_dst dl_vlan dl_vlan_pcp dl_type nw_tos nw_proto : Option (Option ℕ)) (nw_src nw_dst : Option (Option Prefix)) (tp_src tp_dst : Option (Option ℕ))
    → (is_none in_port || is_none dl_src || is_none dl_dst || is_none dl_vlan || is_none dl_vlan_pcp || is_none dl_type || is_none nw_tos || is_none nw_proto || is_none nw_src || is_none nw_dst || is_none tp_src || is_none tp_dst)
    ≡ is_none {T = Pattern} (do
      x_in_port ← in_port
      x_dl_src ← dl_src
      x_dl_dst ← dl_dst
      x_dl_vlan ← dl_vlan
      x_dl_vlan_pcp ← dl_vlan_pcp
      x_dl_type ← dl_type
      x_nw_tos ← nw_tos
      x_nw_proto ← nw_proto
      x_nw_src ← nw_src
      x_nw_dst ← nw_dst
      x_tp_src ← tp_src
      x_tp_dst ← tp_dst
      Some (record { in_port = x_in_port; dl_src = x_dl_src; dl_dst = x_dl_dst; dl_vlan = x_dl_vlan; dl_vlan_pcp = x_dl_vlan_pcp; dl_type = x_dl_type; nw_tos = x_nw_tos; nw_proto = x_nw_proto; nw_src = x_nw_src; nw_dst = x_nw_dst; tp_src = x_tp_src; tp_dst = x_tp_dst }))
by_parts None o2 o3 o4 o5 o6 o7 o8 o9 o10 o11 o12 = refl
by_parts (Some _) None o3 o4 o5 o6 o7 o8 o9 o10 o11 o12 = refl
by_parts (Some _) (Some _) None o4 o5 o6 o7 o8 o9 o10 o11 o12 = refl
by_parts (Some _) (Some _) (Some _) None o5 o6 o7 o8 o9 o10 o11 o12 = refl
by_parts (Some _) (Some _) (Some _) (Some _) None o6 o7 o8 o9 o10 o11 o12 = refl
by_parts (Some _) (Some _) (Some _) (Some _) (Some _) None o7 o8 o9 o10 o11 o12 = refl
by_parts (Some _) (Some _) (Some _) (Some _) (Some _) (Some _) None o8 o9 o10 o11 o12 = refl
by_parts (Some _) (Some _) (Some _) (Some _) (Some _) (Some _) (Some _) None o9 o10 o11 o12 = refl
by_parts (Some _) (Some _) (Some _) (Some _) (Some _) (Some _) (Some _) (Some _) None o10 o11 o12 = refl
by_parts (Some _) (Some _) (Some _) (Some _) (Some _) (Some _) (Some _) (Some _) (Some _) None o11 o12 = refl
by_parts (Some _) (Some _) (Some _) (Some _) (Some _) (Some _) (Some _) (Some _) (Some _) (Some _) None o12 = refl
by_parts (Some _) (Some _) (Some _) (Some _) (Some _) (Some _) (Some _) (Some _) (Some _) (Some _) (Some _) None = refl
by_parts (Some _) (Some _) (Some _) (Some _) (Some _) (Some _) (Some _) (Some _) (Some _) (Some _) (Some _) (Some _) = refl

-- the order of the twelve tests doesn't matter
reordered : (in_port dl_src dl_dst dl_vlan dl_vlan_pcp dl_type nw_tos nw_proto nw_src nw_dst tp_src tp_dst : Bool)
    → (tp_dst || nw_dst || nw_src || in_port || dl_vlan || dl_dst || dl_src || nw_proto || dl_type || tp_src || nw_tos || dl_vlan_pcp)
    ≡ (in_port || dl_src || dl_dst || dl_vlan || dl_vlan_pcp || dl_type || nw_tos || nw_proto || nw_src || nw_dst || tp_src || tp_dst)
reordered in_port dl_src dl_dst dl_vlan dl_vlan_pcp dl_type nw_tos nw_proto nw_src nw_dst tp_src tp_dst = grind arith

as_test : (o : Option Pattern) → is_none o ≡ elim o [ None ↦ true | Some r ↦ false ]
as_test None = refl
as_test (Some r) = refl

pub is_disjoint-any : (a b : Pattern)
    → (is_none (both a.tp_dst b.tp_dst) || is_none (both_prefix a.nw_dst b.nw_dst) || is_none (both_prefix a.nw_src b.nw_src) || is_none (both a.in_port b.in_port) || is_none (both a.dl_vlan b.dl_vlan) || is_none (both a.dl_dst b.dl_dst) || is_none (both a.dl_src b.dl_src) || is_none (both a.nw_proto b.nw_proto) || is_none (both a.dl_type b.dl_type) || is_none (both a.tp_src b.tp_src) || is_none (both a.nw_tos b.nw_tos) || is_none (both a.dl_vlan_pcp b.dl_vlan_pcp))
    ≡ is_disjoint a b
unfolding meet_of
is_disjoint-any a b =
    reordered (is_none (both a.in_port b.in_port)) (is_none (both a.dl_src b.dl_src)) (is_none (both a.dl_dst b.dl_dst)) (is_none (both a.dl_vlan b.dl_vlan)) (is_none (both a.dl_vlan_pcp b.dl_vlan_pcp)) (is_none (both a.dl_type b.dl_type)) (is_none (both a.nw_tos b.nw_tos)) (is_none (both a.nw_proto b.nw_proto)) (is_none (both_prefix a.nw_src b.nw_src)) (is_none (both_prefix a.nw_dst b.nw_dst)) (is_none (both a.tp_src b.tp_src)) (is_none (both a.tp_dst b.tp_dst))
    ∙ by_parts (both a.in_port b.in_port) (both a.dl_src b.dl_src) (both a.dl_dst b.dl_dst) (both a.dl_vlan b.dl_vlan) (both a.dl_vlan_pcp b.dl_vlan_pcp) (both a.dl_type b.dl_type) (both a.nw_tos b.nw_tos) (both a.nw_proto b.nw_proto) (both_prefix a.nw_src b.nw_src) (both_prefix a.nw_dst b.nw_dst) (both a.tp_src b.tp_src) (both a.tp_dst b.tp_dst)
    ∙ as_test (meet_of a b)
