-- PORT_STATUS (OpenFlow 1.0.0, section 5.4.3).
use Rattle.std.specs.Prelude.{ℕ, ◌<◌, ◌^◌, ◌==◌, if◌then◌else◌, List, [], ◌∷◌, ◌++◌, length, drop, slice_index, Result, Ok, Err}
use Rattle.of10_action.specs.Actions.{padding}
use Rattle.of10_action.specs.declared.fault.WireFault.{WireFault}
use Rattle.of10_action.specs.declared.fault.WireFault.TheVariants.{Length}
use Rattle.of10_ctl.specs.declared.kind.TheConstants.{PORT_STATUS}
use Rattle.of10_ctl.specs.Frames.{message_of}
use Rattle.of10_port.specs.declared.status.PortStatus.{PortStatus}
use Rattle.of10_port.specs.declared.status.PortStatusView.{PortStatusView}
use Rattle.of10_port.specs.Ports.{IsPort}

-- the reason is a byte, and the port is one (section 5.4.3)
pub record IsPortStatus (s : PortStatus) : Type 0 where
  pub reason : s.reason < 2 ^ 8
  pub port : IsPort s.port

-- the message: the reason, zero padding and the port (section 5.4.3)
unfoldable pub spell_port_status : PortStatus → ℕ → List ℕ
spell_port_status s xid = message_of PORT_STATUS xid ((s.reason ∷ []) ++ padding 7 ++ s.port)

-- what the 64 bytes of a message say, padding disregarded (section 5.4.3)
abbrev pub status_in : List ℕ → PortStatus
status_in bytes = record { reason = slice_index bytes 8; port = drop 16 bytes }

-- what a view of a message shows
abbrev pub status_of : PortStatusView → PortStatus
status_of view = status_in view.bytes.now

-- what the message says, or that it has no such length (section 5.4.3)
unfoldable pub read_port_status : List ℕ → Result PortStatus WireFault
read_port_status bytes =
    if length bytes == 64 then Ok (status_in bytes)
    else Err (Length (length bytes))
