-- What is said of a packet-out that a slice has sent to the switch, and which is a probe (this proxy's own rule; numbers of ports are the standard's, OpenFlow 1.0.0, section 5.2.1).
use Rattle.std.specs.Prelude.{ℕ, ◌≡◌, ◌⊎◌, ◌<◌, ◌^◌, ◌==◌, ◌&&◌, Bool, true, false, List, All}
use Rattle.of10_model.specs.Header.{Header, IsHeader}
use Rattle.of10_action.specs.declared.action.Action.{Action}
use Rattle.of10_action.specs.declared.action.Action.TheVariants.{Output}
use Rattle.of10_port.specs.declared.protocol.TheConstants.{IN_PORT, TABLE, CONTROLLER, NONE}
use Rattle.of10_flow.specs.declared.protocol.TheConstants.{NO_BUFFER}
use Rattle.of10_flow.specs.declared.packet_out.PacketOut.{PacketOut}
use Rattle.frame_header.specs.declared.probe.TheConstants.{LLDP}
use Rattle.frame_header.specs.Headers.{header_of_packet}
use Rattle.frame_header.specs.Probes.{IsProbe}
use Rattle.flowspace.specs.declared.rules.Rule.{Rule}
use Rattle.flowspace.specs.Owners.{Writes, HasPort}
use Rattle.action_check.specs.declared.origin.Origin.TheVariants.{Packet}
use Rattle.action_check.specs.Soundness.{IsSound}
use Rattle.flow_facts.specs.FlowMods.{NamesOwnPort}

-- ---- its packet

-- the header of the packet that it carries itself
abbrev pub carried_header : PacketOut → Header
carried_header m = header_of_packet m.in_port m.payload

-- a probe carries a packet of LLDP, by which a controller finds the links between switches
abbrev pub is_probe : PacketOut → Bool
is_probe m = m.buffer == NO_BUFFER && (carried_header m).dl_type == LLDP

-- ---- what it sends

-- a packet may count as received by a port of the slice, by none, and from the controller
abbrev pub MayComeBy : List Rule → ℕ → ℕ → Type 0
MayComeBy rules slot port = HasPort rules slot port ⊎ ((port ≡ NONE) ⊎ (port ≡ CONTROLLER))

-- the slice writes the header of the packet that it carries itself, by some port of entry
abbrev pub CarriesWritten : List Rule → ℕ → PacketOut → Type 0
CarriesWritten rules slot m = (entry : ℕ) × (entry < 2 ^ 16) × (IsHeader (header_of_packet entry m.payload) → Writes rules slot (header_of_packet entry m.payload))

-- the number that it carries is that of a packet whose header the slice writes. Or it carries no number, counts as received where the slice may have it so, and carries a packet that the slice writes, or a probe with the slice's mark
abbrev pub SendsOwnPacket : (ℕ → Header → Type 0) → List Rule → ℕ → PacketOut → Type 0
SendsOwnPacket IsHeaderUnder rules slot m =
    ((h : Header) × IsHeaderUnder m.buffer h × Writes rules slot h)
    ⊎ ((m.buffer ≡ NO_BUFFER) × MayComeBy rules slot m.in_port × (CarriesWritten rules slot m ⊎ IsProbe m.payload slot))

-- an OUTPUT of a packet-out may also name TABLE
abbrev pub SendsToOwnPort : List Rule → ℕ → Action → Type 0
SendsToOwnPort rules slot (Output port max_len) = NamesOwnPort rules slot (Output port max_len) ⊎ (port ≡ TABLE)
SendsToOwnPort rules slot action = NamesOwnPort rules slot action

-- an OUTPUT of a probe may name neither CONTROLLER nor TABLE
abbrev pub SendsProbeToOwnPort : List Rule → ℕ → Action → Type 0
SendsProbeToOwnPort rules slot (Output port max_len) = HasPort rules slot port ⊎ (port ≡ IN_PORT)
SendsProbeToOwnPort rules slot action = NamesOwnPort rules slot action

-- so does each of its actions
abbrev pub SendsToOwnPorts : List Rule → ℕ → PacketOut → Type 0
SendsToOwnPorts rules slot m = All (SendsToOwnPort rules slot) m.actions × (is_probe m ≡ true → All (SendsProbeToOwnPort rules slot) m.actions)

-- a packet-out changes no flow table
abbrev pub ChangesNoTable : PacketOut → Type 0
ChangesNoTable m = Unit {0}

-- the packet that it sends has a header: that under its number, or that of the packet which it carries
abbrev pub IsHeaderSent : (ℕ → Header → Type 0) → PacketOut → Header → Type 0
IsHeaderSent IsHeaderUnder m h = IsHeaderUnder m.buffer h ⊎ ((m.buffer ≡ NO_BUFFER) × (h ≡ carried_header m))

-- a packet-out stays within a slice: beside all this, its packet, if it is no probe, is at each action that sends it, as the actions before rewrite it, one that the slice writes by some port of entry. Where it is sent to the controller or through the table, it is one that the slice writes by its own port of entry
pub record SendsWithin (IsHeaderUnder : ℕ → Header → Type 0) (rules : List Rule) (slot : ℕ) (m : PacketOut) : Type 0 where
  pub own : SendsOwnPacket IsHeaderUnder rules slot m
  pub outputs : SendsToOwnPorts rules slot m
  pub sends : is_probe m ≡ false → (h : Header) → IsHeader h → IsHeaderSent IsHeaderUnder m h → IsSound rules slot (Packet h) m.actions
