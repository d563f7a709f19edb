-- The three facts of a message that passes, in the words in which they are said of what the proxy sends (`flow_facts`).
use Rattle.std.specs.Prelude.{ℕ, ◌≡◌, ◌⊎◌, false, List, All, Option, Some}
use Rattle.of10_model.specs.Header.{Header, IsHeader}
use Rattle.of10_model.specs.Pattern.{Has}
use Rattle.of10_flow.specs.declared.protocol.TheConstants.{NO_BUFFER}
use Rattle.of10_flow.specs.declared.flow_mod.FlowMod.{FlowMod}
use Rattle.of10_flow.specs.declared.packet_out.PacketOut.{PacketOut}
use Rattle.of10_flow.specs.Tables.{is_delete}
use Rattle.flowspace.specs.declared.rules.Rule.{Rule}
use Rattle.flowspace.specs.Owners.{Writes}
use Rattle.frame_header.specs.Probes.{IsProbe}
use Rattle.flow_facts.specs.Messages.{IsEitherRead}
use Rattle.flowspace.specs.Policies.{PolicyView}
use Rattle.desk_words.specs.declared.event.Timed.{Timed}
use Rattle.desk_words.specs.Openings.{opening_of, rules_of}
use Rattle.desk_words.specs.Arrivals.{buffer_header}
use Rattle.flow_facts.specs.FlowMods.{LiesInFlowspace, OutputsToOwnPorts, LeavesOtherHeaders}
use Rattle.flow_facts.specs.PacketOuts.{MayComeBy, CarriesWritten, SendsToOwnPort, SendsProbeToOwnPort}

-- a flow-mod lies in the flowspace, outputs to the slice's ports, and leaves every table treating other headers as before; where it names a packet, that is one of the slice and in its match
pub record KeepsFlowspace (held : Option Header) (rules : List Rule) (slot : ℕ) (m : FlowMod) : Type 0 where
  pub lies : LiesInFlowspace rules slot m
  pub outputs : is_delete m ≡ false → OutputsToOwnPorts rules slot m
  pub leaves : LeavesOtherHeaders rules slot m
  pub buffer : (m.buffer ≡ NO_BUFFER) ⊎ ((h : Header) × (held ≡ Some h) × (IsHeader h → Writes rules slot h) × Has m.pattern h)

-- a packet-out names a packet of the slice, or counts as received where the slice may have it so and carries a packet that the slice writes, or a probe with its mark
abbrev pub SendsOwn : Option Header → List Rule → ℕ → PacketOut → Type 0
SendsOwn held rules slot m =
    ((h : Header) × (held ≡ Some h) × (IsHeader h → Writes rules slot h))
    ⊎ ((m.buffer ≡ NO_BUFFER) × MayComeBy rules slot m.in_port × (CarriesWritten rules slot m ⊎ IsProbe m.payload slot))

-- and its outputs name the slice's ports, those of a probe neither CONTROLLER nor TABLE
pub record KeepsPackets (held : Option Header) (rules : List Rule) (slot : ℕ) (m : PacketOut) : Type 0 where
  pub own : SendsOwn held rules slot m
  pub outputs : All (SendsToOwnPort rules slot) m.actions
  pub probes : m.buffer ≡ NO_BUFFER → IsProbe m.payload slot → All (SendsProbeToOwnPort rules slot) m.actions

-- a message that was sent for a slice after the events of a session is a flow-mod or a packet-out of which these facts hold, by the rules of the switch and the packets that it keeps
abbrev pub KeepsSlice : PolicyView → List Timed → ℕ → List ℕ → Type 0
KeepsSlice policy h slot message =
    let rules = rules_of policy (opening_of h) in
    IsEitherRead (λ m. KeepsFlowspace (buffer_header h m.buffer) rules slot m) (λ m. KeepsPackets (buffer_header h m.buffer) rules slot m) message
