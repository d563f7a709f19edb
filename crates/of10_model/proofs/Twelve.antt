-- Twelve tests, one for each field of a header.
use Rattle.std.proofs.Common.{◌&&◌, Bool, IsTrue}
use Rattle.std.proofs.lemmas.Bool.{and_parts, and_from}

-- each of the tests is true
pub record AllTrue (in_port dl_src dl_dst dl_vlan dl_vlan_pcp dl_type nw_tos nw_proto nw_src nw_dst tp_src tp_dst : Bool) : Type 0 where
  pub is_in_port : IsTrue in_port
  pub is_dl_src : IsTrue dl_src
  pub is_dl_dst : IsTrue dl_dst
  pub is_dl_vlan : IsTrue dl_vlan
  pub is_dl_vlan_pcp : IsTrue dl_vlan_pcp
  pub is_dl_type : IsTrue dl_type
  pub is_nw_tos : IsTrue nw_tos
  pub is_nw_proto : IsTrue nw_proto
  pub is_nw_src : IsTrue nw_src
  pub is_nw_dst : IsTrue nw_dst
  pub is_tp_src : IsTrue tp_src
  pub is_tp_dst : IsTrue tp_dst

-- where their conjunction is true, each is
pub each_true : (in_port dl_src dl_dst dl_vlan dl_vlan_pcp dl_type nw_tos nw_proto nw_src nw_dst tp_src tp_dst : Bool)
    → IsTrue (in_port && dl_src && dl_dst && dl_vlan && dl_vlan_pcp && dl_type && nw_tos && nw_proto && nw_src && nw_dst && tp_src && tp_dst)
    → AllTrue in_port dl_src dl_dst dl_vlan dl_vlan_pcp dl_type nw_tos nw_proto nw_src nw_dst tp_src tp_dst
each_true in_port dl_src dl_dst dl_vlan dl_vlan_pcp dl_type nw_tos nw_proto nw_src nw_dst tp_src tp_dst h12 =
    let h11 : IsTrue (in_port && dl_src && dl_dst && dl_vlan && dl_vlan_pcp && dl_type && nw_tos && nw_proto && nw_src && nw_dst && tp_src) = (and_parts (in_port && dl_src && dl_dst && dl_vlan && dl_vlan_pcp && dl_type && nw_tos && nw_proto && nw_src && nw_dst && tp_src) tp_dst h12).0 in
    let h10 : IsTrue (in_port && dl_src && dl_dst && dl_vlan && dl_vlan_pcp && dl_type && nw_tos && nw_proto && nw_src && nw_dst) = (and_parts (in_port && dl_src && dl_dst && dl_vlan && dl_vlan_pcp && dl_type && nw_tos && nw_proto && nw_src && nw_dst) tp_src h11).0 in
    let h9 : IsTrue (in_port && dl_src && dl_dst && dl_vlan && dl_vlan_pcp && dl_type && nw_tos && nw_proto && nw_src) = (and_parts (in_port && dl_src && dl_dst && dl_vlan && dl_vlan_pcp && dl_type && nw_tos && nw_proto && nw_src) nw_dst h10).0 in
    let h8 : IsTrue (in_port && dl_src && dl_dst && dl_vlan && dl_vlan_pcp && dl_type && nw_tos && nw_proto) = (and_parts (in_port && dl_src && dl_dst && dl_vlan && dl_vlan_pcp && dl_type && nw_tos && nw_proto) nw_src h9).0 in
    let h7 : IsTrue (in_port && dl_src && dl_dst && dl_vlan && dl_vlan_pcp && dl_type && nw_tos) = (and_parts (in_port && dl_src && dl_dst && dl_vlan && dl_vlan_pcp && dl_type && nw_tos) nw_proto h8).0 in
    let h6 : IsTrue (in_port && dl_src && dl_dst && dl_vlan && dl_vlan_pcp && dl_type) = (and_parts (in_port && dl_src && dl_dst && dl_vlan && dl_vlan_pcp && dl_type) nw_tos h7).0 in
    let h5 : IsTrue (in_port && dl_src && dl_dst && dl_vlan && dl_vlan_pcp) = (and_parts (in_port && dl_src && dl_dst && dl_vlan && dl_vlan_pcp) dl_type h6).0 in
    let h4 : IsTrue (in_port && dl_src && dl_dst && dl_vlan) = (and_parts (in_port && dl_src && dl_dst && dl_vlan) dl_vlan_pcp h5).0 in
    let h3 : IsTrue (in_port && dl_src && dl_dst) = (and_parts (in_port && dl_src && dl_dst) dl_vlan h4).0 in
    let h2 : IsTrue (in_port && dl_src) = (and_parts (in_port && dl_src) dl_dst h3).0 in
    record {
      is_in_port = (and_parts in_port dl_src h2).0;
      is_dl_src = (and_parts (in_port) dl_src h2).1;
      is_dl_dst = (and_parts (in_port && dl_src) dl_dst h3).1;
      is_dl_vlan = (and_parts (in_port && dl_src && dl_dst) dl_vlan h4).1;
      is_dl_vlan_pcp = (and_parts (in_port && dl_src && dl_dst && dl_vlan) dl_vlan_pcp h5).1;
      is_dl_type = (and_parts (in_port && dl_src && dl_dst && dl_vlan && dl_vlan_pcp) dl_type h6).1;
      is_nw_tos = (and_parts (in_port && dl_src && dl_dst && dl_vlan && dl_vlan_pcp && dl_type) nw_tos h7).1;
      is_nw_proto = (and_parts (in_port && dl_src && dl_dst && dl_vlan && dl_vlan_pcp && dl_type && nw_tos) nw_proto h8).1;
      is_nw_src = (and_parts (in_port && dl_src && dl_dst && dl_vlan && dl_vlan_pcp && dl_type && nw_tos && nw_proto) nw_src h9).1;
      is_nw_dst = (and_parts (in_port && dl_src && dl_dst && dl_vlan && dl_vlan_pcp && dl_type && nw_tos && nw_proto && nw_src) nw_dst h10).1;
      is_tp_src = (and_parts (in_port && dl_src && dl_dst && dl_vlan && dl_vlan_pcp && dl_type && nw_tos && nw_proto && nw_src && nw_dst) tp_src h11).1;
      is_tp_dst = (and_parts (in_port && dl_src && dl_dst && dl_vlan && dl_vlan_pcp && dl_type && nw_tos && nw_proto && nw_src && nw_dst && tp_src) tp_dst h12).1;
    }

-- where each is true, their conjunction is
pub true_of_each : (in_port dl_src dl_dst dl_vlan dl_vlan_pcp dl_type nw_tos nw_proto nw_src nw_dst tp_src tp_dst : Bool)
    → AllTrue in_port dl_src dl_dst dl_vlan dl_vlan_pcp dl_type nw_tos nw_proto nw_src nw_dst tp_src tp_dst
    → IsTrue (in_port && dl_src && dl_dst && dl_vlan && dl_vlan_pcp && dl_type && nw_tos && nw_proto && nw_src && nw_dst && tp_src && tp_dst)
true_of_each in_port dl_src dl_dst dl_vlan dl_vlan_pcp dl_type nw_tos nw_proto nw_src nw_dst tp_src tp_dst h =
    let h1 : IsTrue in_port = h.is_in_port in
    let h2 : IsTrue (in_port && dl_src) = and_from (in_port) dl_src h1 h.is_dl_src in
    let h3 : IsTrue (in_port && dl_src && dl_dst) = and_from (in_port && dl_src) dl_dst h2 h.is_dl_dst in
    let h4 : IsTrue (in_port && dl_src && dl_dst && dl_vlan) = and_from (in_port && dl_src && dl_dst) dl_vlan h3 h.is_dl_vlan in
    let h5 : IsTrue (in_port && dl_src && dl_dst && dl_vlan && dl_vlan_pcp) = and_from (in_port && dl_src && dl_dst && dl_vlan) dl_vlan_pcp h4 h.is_dl_vlan_pcp in
    let h6 : IsTrue (in_port && dl_src && dl_dst && dl_vlan && dl_vlan_pcp && dl_type) = and_from (in_port && dl_src && dl_dst && dl_vlan && dl_vlan_pcp) dl_type h5 h.is_dl_type in
    let h7 : IsTrue (in_port && dl_src && dl_dst && dl_vlan && dl_vlan_pcp && dl_type && nw_tos) = and_from (in_port && dl_src && dl_dst && dl_vlan && dl_vlan_pcp && dl_type) nw_tos h6 h.is_nw_tos in
    let h8 : IsTrue (in_port && dl_src && dl_dst && dl_vlan && dl_vlan_pcp && dl_type && nw_tos && nw_proto) = and_from (in_port && dl_src && dl_dst && dl_vlan && dl_vlan_pcp && dl_type && nw_tos) nw_proto h7 h.is_nw_proto in
    let h9 : IsTrue (in_port && dl_src && dl_dst && dl_vlan && dl_vlan_pcp && dl_type && nw_tos && nw_proto && nw_src) = and_from (in_port && dl_src && dl_dst && dl_vlan && dl_vlan_pcp && dl_type && nw_tos && nw_proto) nw_src h8 h.is_nw_src in
    let h10 : IsTrue (in_port && dl_src && dl_dst && dl_vlan && dl_vlan_pcp && dl_type && nw_tos && nw_proto && nw_src && nw_dst) = and_from (in_port && dl_src && dl_dst && dl_vlan && dl_vlan_pcp && dl_type && nw_tos && nw_proto && nw_src) nw_dst h9 h.is_nw_dst in
    let h11 : IsTrue (in_port && dl_src && dl_dst && dl_vlan && dl_vlan_pcp && dl_type && nw_tos && nw_proto && nw_src && nw_dst && tp_src) = and_from (in_port && dl_src && dl_dst && dl_vlan && dl_vlan_pcp && dl_type && nw_tos && nw_proto && nw_src && nw_dst) tp_src h10 h.is_tp_src in
    and_from (in_port && dl_src && dl_dst && dl_vlan && dl_vlan_pcp && dl_type && nw_tos && nw_proto && nw_src && nw_dst && tp_src) tp_dst h11 h.is_tp_dst
