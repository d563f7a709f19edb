-- FEATURES_REPLY (OpenFlow 1.0.0, section 5.3.1).
use Rattle.std.specs.Prelude.{ℕ, ◌-◌, ◌%◌, ◌<◌, ◌≤◌, ◌^◌, ◌==◌, ◌&&◌, not, nat_lt, Bool, if◌then◌else◌, List, [], ◌∷◌, ◌++◌, length, drop, slice_index, Result, Ok, Err}
use Rattle.std.specs.List.{All}
use Rattle.byteorder.specs.Endian.{big_bytes}
use Rattle.of10_model.specs.Normal.{number_at}
use Rattle.of10_action.specs.Actions.{padding}
use Rattle.of10_action.specs.declared.fault.WireFault.{WireFault}
use Rattle.of10_action.specs.declared.fault.WireFault.TheVariants.{Length}
use Rattle.of10_ctl.specs.declared.kind.TheConstants.{FEATURES_REPLY}
use Rattle.of10_ctl.specs.Frames.{message_of}
use Rattle.of10_port.specs.declared.features.Features.{Features}
use Rattle.of10_port.specs.declared.features.FeaturesView.{FeaturesView}
use Rattle.of10_port.specs.Ports.{IsPort, port_bytes, ports_in}

-- what a view of features shows
abbrev pub features_of : FeaturesView → Features
features_of view = record { datapath = view.datapath; buffers = view.buffers; tables = view.tables; capabilities = view.capabilities; actions = view.actions; ports = view.ports.now }

-- each field lies in the range of its place, and the ports fit a message (section 5.3.1)
pub record IsFeatures (f : Features) : Type 0 where
  pub datapath : f.datapath < 2 ^ 64
  pub buffers : f.buffers < 2 ^ 32
  pub tables : f.tables < 2 ^ 8
  pub capabilities : f.capabilities < 2 ^ 32
  pub actions : f.actions < 2 ^ 32
  pub ports : All IsPort f.ports
  pub few : length f.ports ≤ 1364

-- the fields in front of the ports (section 5.3.1)
unfoldable pub features_front : Features → List ℕ
features_front f =
    big_bytes 8 f.datapath ++ big_bytes 4 f.buffers ++ (f.tables ∷ []) ++ padding 3
    ++ big_bytes 4 f.capabilities ++ big_bytes 4 f.actions

-- the message, padding zero (section 5.3.1)
unfoldable pub spell_features : Features → ℕ → List ℕ
spell_features f xid = message_of FEATURES_REPLY xid (features_front f ++ port_bytes f.ports)

-- the message has its front and whole ports (section 5.3.1)
abbrev pub has_whole_ports : List ℕ → Bool
has_whole_ports bytes = not (nat_lt (length bytes) 32) && (length bytes - 32) % 48 == 0

-- what the message says, padding disregarded, or that it has no such length (section 5.3.1)
unfoldable pub read_features : List ℕ → Result Features WireFault
read_features bytes =
    if has_whole_ports bytes then Ok (record {
      datapath = number_at bytes 8 8;
      buffers = number_at bytes 16 4;
      tables = slice_index bytes 20;
      capabilities = number_at bytes 24 4;
      actions = number_at bytes 28 4;
      ports = ports_in (drop 32 bytes);
    }) else Err (Length (length bytes))
