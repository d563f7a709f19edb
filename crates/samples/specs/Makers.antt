-- What the makers make.
use Rattle.std.specs.Prelude.{ℕ, ◌-◌, ◌==◌, ◌||◌, if◌then◌else◌, List, [], ◌∷◌, codes, Option, Some, None, is_some}
use Rattle.of10_model.specs.declared.pattern.Prefix.{Prefix}
use Rattle.of10_model.specs.declared.pattern.Pattern.{Pattern}
use Rattle.of10_model.specs.Pattern.{leading_bits}
use Rattle.flowspace.specs.declared.slices.Slice.{Slice}
use Rattle.samples.specs.declared.matches.Packets.{Packets}
use Rattle.of10_port.specs.declared.features.Features.{Features}

-- the addresses that begin as one does in so many bits; 33 and more are all bits
abbrev pub prefix_of : ℕ → ℕ → Option Prefix
prefix_of net bits =
    if bits == 0 then None else Some (leading_bits net (32 - (32 - bits)))

-- IPv4 where a network or a TCP port is given
abbrev pub kind_for : Option Prefix → Option ℕ → Option ℕ
kind_for net tcp = if is_some net || is_some tcp then Some 0x0800 else None

-- TCP where a port is given
abbrev pub protocol_of : Option ℕ → Option ℕ
protocol_of tcp = if is_some tcp then Some 6 else None

abbrev pub pattern_of : Option ℕ → Option Prefix → Option ℕ → Pattern
pattern_of in_port net tcp = record {
  in_port = in_port;
  dl_src = None;
  dl_dst = None;
  dl_vlan = None;
  dl_vlan_pcp = None;
  dl_type = kind_for net tcp;
  nw_tos = None;
  nw_proto = protocol_of tcp;
  nw_src = None;
  nw_dst = net;
  tp_src = None;
  tp_dst = tcp;
}

abbrev pub packets_of : Packets → Pattern
packets_of p = pattern_of p.in_port (prefix_of p.net p.bits) p.tcp

-- the slice of a name
abbrev pub slice_called : List ℕ → Slice
slice_called name = record { name = name; controller = codes "192.0.2.1:6633"; rate = 1000; burst = 1000; quota = 1024 }

abbrev pub alice_and_bob : List Slice
alice_and_bob = slice_called (codes "alice") ∷ slice_called (codes "bob") ∷ []

-- the switch 0xa1 with these ports
abbrev pub switch_with : List (List ℕ) → Features
switch_with ports = record { datapath = 0xa1; buffers = 256; tables = 1; capabilities = 0; actions = 0xfff; ports = ports }
