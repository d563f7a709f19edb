-- A match includes another where it covers each field, in whatever order the fields are tested.
use Rattle.std.proofs.Common.{◌≡◌, ◌&&◌, Bool, arith}
use Rattle.of10_model.specs.declared.pattern.Pattern.{Pattern}
use Rattle.of10_model.specs.Inclusion.{covers, covers_prefix, includes_of, any_in_port}

-- the order of the eleven tests doesn't matter
reordered : (dl_src dl_dst dl_vlan dl_vlan_pcp dl_type nw_tos nw_proto nw_src nw_dst tp_src tp_dst : Bool)
    → (tp_dst && nw_dst && nw_src && dl_vlan && dl_dst && dl_src && nw_proto && dl_type && tp_src && nw_tos && dl_vlan_pcp)
    ≡ (dl_src && dl_dst && dl_vlan && dl_vlan_pcp && dl_type && nw_tos && nw_proto && nw_src && nw_dst && tp_src && tp_dst)
reordered dl_src dl_dst dl_vlan dl_vlan_pcp dl_type nw_tos nw_proto nw_src nw_dst tp_src tp_dst = grind arith

-- nor whether the in_port is tested first or last
moved : (in_port dl_src dl_dst dl_vlan dl_vlan_pcp dl_type nw_tos nw_proto nw_src nw_dst tp_src tp_dst : Bool)
    → ((dl_src && dl_dst && dl_vlan && dl_vlan_pcp && dl_type && nw_tos && nw_proto && nw_src && nw_dst && tp_src && tp_dst) && in_port)
    ≡ (in_port && dl_src && dl_dst && dl_vlan && dl_vlan_pcp && dl_type && nw_tos && nw_proto && nw_src && nw_dst && tp_src && tp_dst)
moved in_port dl_src dl_dst dl_vlan dl_vlan_pcp dl_type nw_tos nw_proto nw_src nw_dst tp_src tp_dst = grind arith

-- the tests of all fields but the in_port
abbrev rest : Pattern → Pattern → Bool
rest a b =
    covers a.tp_dst b.tp_dst && covers_prefix a.nw_dst b.nw_dst && covers_prefix a.nw_src b.nw_src && covers a.dl_vlan b.dl_vlan
    && covers a.dl_dst b.dl_dst && covers a.dl_src b.dl_src && covers a.nw_proto b.nw_proto && covers a.dl_type b.dl_type
    && covers a.tp_src b.tp_src && covers a.nw_tos b.nw_tos && covers a.dl_vlan_pcp b.dl_vlan_pcp

pub includes-aside : (a b : Pattern) → rest a b ≡ includes_of (any_in_port a) b
unfolding includes_of
includes-aside a b =
    reordered (covers a.dl_src b.dl_src) (covers a.dl_dst b.dl_dst) (covers a.dl_vlan b.dl_vlan) (covers a.dl_vlan_pcp b.dl_vlan_pcp) (covers a.dl_type b.dl_type) (covers a.nw_tos b.nw_tos) (covers a.nw_proto b.nw_proto) (covers_prefix a.nw_src b.nw_src) (covers_prefix a.nw_dst b.nw_dst) (covers a.tp_src b.tp_src) (covers a.tp_dst b.tp_dst)

pub includes-any : (a b : Pattern) → (includes_of (any_in_port a) b && covers a.in_port b.in_port) ≡ includes_of a b
unfolding includes_of
includes-any a b =
    moved (covers a.in_port b.in_port) (covers a.dl_src b.dl_src) (covers a.dl_dst b.dl_dst) (covers a.dl_vlan b.dl_vlan) (covers a.dl_vlan_pcp b.dl_vlan_pcp) (covers a.dl_type b.dl_type) (covers a.nw_tos b.nw_tos) (covers a.nw_proto b.nw_proto) (covers_prefix a.nw_src b.nw_src) (covers_prefix a.nw_dst b.nw_dst) (covers a.tp_src b.tp_src) (covers a.tp_dst b.tp_dst)
