use Rattle.std.proofs.Common.{refl}
use Rattle.of10_model.specs.Normal.{applied}
use Rattle.of10_match.proofs.matching.Match.all.Goals as goal

pub invariant_of-result : goal.invariant_of-result
unfolding applied
invariant_of-result c = (
  record {
    in_port = tt;
    dl_src = tt;
    dl_dst = tt;
    dl_vlan = tt;
    dl_vlan_pcp = tt;
    dl_type = tt;
    nw_tos = tt;
    nw_proto = tt;
    nw_src = tt;
    nw_dst = tt;
    tp_src = tt;
    tp_dst = tt;
  },
  refl,
)
