-- The header of a packet: its twelve fields as matching sees them (OpenFlow 1.0.0, section 3.4).
use Rattle.std.specs.Prelude.{ℕ, List}
use Rattle.of10_model.specs.Header.{Header}
use Rattle.frame_header.specs.Links.{field_at, LinkHeader, link_of}
use Rattle.frame_header.specs.declared.network.Network.{Network}
use Rattle.frame_header.specs.Networks.{network_of}

-- the type of a packet, behind its tag where it has one
abbrev pub dl_type_of : List ℕ → ℕ
dl_type_of bytes = (link_of bytes).kind

-- the fields that two layers give, with the port of entry and the addresses
abbrev pub header_from : ℕ → List ℕ → LinkHeader → Network → Header
header_from in_port bytes link network = record {
  in_port = in_port;
  dl_src = field_at bytes 6 6;
  dl_dst = field_at bytes 0 6;
  dl_vlan = link.vlan;
  dl_vlan_pcp = link.pcp;
  dl_type = link.kind;
  nw_tos = network.nw_tos;
  nw_proto = network.nw_proto;
  nw_src = network.nw_src;
  nw_dst = network.nw_dst;
  tp_src = network.tp_src;
  tp_dst = network.tp_dst;
}

-- the header of a packet that came in at a port: each layer reads what the one before it leaves
unfoldable pub header_of_packet : ℕ → List ℕ → Header
header_of_packet in_port bytes =
    let link = link_of bytes in
    header_from in_port bytes link (network_of link.kind link.payload)
