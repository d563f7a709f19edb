-- What is said of the messages that a slice has sent to the switch, by their bytes and by what a switch reads of them (this proxy's own rule).
use Rattle.std.specs.Prelude.{ℕ, ◌≡◌, ◌⊎◌, List, Ok}
use Rattle.of10_ctl.specs.declared.kind.TheConstants.{FLOW_MOD, PACKET_OUT, STATS_REQUEST, BARRIER_REQUEST, QUEUE_GET_CONFIG_REQUEST}
use Rattle.of10_ctl.specs.Kinds.{IsOf}
use Rattle.of10_flow.specs.declared.flow_mod.FlowMod.{FlowMod}
use Rattle.of10_flow.specs.declared.packet_out.PacketOut.{PacketOut}
use Rattle.of10_flow.specs.FlowMods.{IsRanged, spell_flow_mod, read_flow_mod}
use Rattle.of10_flow.specs.PacketOuts.{IsRangedOut, spell_packet_out, read_packet_out}
use Rattle.of10_message.specs.declared.controller.FromController.{FromController}
use Rattle.of10_message.specs.Controller.{read_controller}
use Rattle.flowspace.specs.declared.rules.Rule.{Rule}
use Rattle.flow_facts.specs.Inquiries.{MayBeAsked}

-- ---- by their bytes

-- a message is a flow-mod, with its fields in their ranges, of which something holds
abbrev pub IsFlowModThat : (FlowMod → Type 0) → List ℕ → Type 0
IsFlowModThat Holds message = (m : FlowMod) × (message ≡ spell_flow_mod m) × IsRanged m × Holds m

-- a message is a packet-out, with its fields in their ranges, of which something holds
abbrev pub IsPacketOutThat : (PacketOut → Type 0) → List ℕ → Type 0
IsPacketOutThat Holds message = (m : PacketOut) × (message ≡ spell_packet_out m) × IsRangedOut m × Holds m

-- a message is a flow-mod of which one thing holds, or a packet-out of which another does
abbrev pub IsEitherThat : (FlowMod → Type 0) → (PacketOut → Type 0) → List ℕ → Type 0
IsEitherThat OfFlowMod OfPacketOut message = IsFlowModThat OfFlowMod message ⊎ IsPacketOutThat OfPacketOut message

-- a message asks the switch for a reply: for statistics (section 5.3.5), to a barrier (5.3.7), or on the queues of a port (5.3.4). So it is neither a flow-mod nor a packet-out
abbrev pub AsksForReply : List ℕ → Type 0
AsksForReply message = IsOf STATS_REQUEST message ⊎ (IsOf BARRIER_REQUEST message ⊎ IsOf QUEUE_GET_CONFIG_REQUEST message)

-- a message is a flow-mod of which one thing holds, or a packet-out of which another does, or it asks for a reply
abbrev pub IsSentThat : (FlowMod → Type 0) → (PacketOut → Type 0) → List ℕ → Type 0
IsSentThat OfFlowMod OfPacketOut message = IsEitherThat OfFlowMod OfPacketOut message ⊎ AsksForReply message

-- ---- what a switch reads

-- a switch reads a message as a flow-mod of which something holds (OpenFlow 1.0.0, section 5.3.3)
pub record IsReadAs (Holds : FlowMod → Type 0) (message : List ℕ) : Type 0 where
  pub kind : IsOf FLOW_MOD message
  pub flow_mod : FlowMod
  pub read : read_flow_mod message ≡ Ok flow_mod
  pub holds : Holds flow_mod

-- a switch reads a message as a packet-out of which something holds (section 5.3.6)
pub record IsReadAsOut (Holds : PacketOut → Type 0) (message : List ℕ) : Type 0 where
  pub kind : IsOf PACKET_OUT message
  pub packet_out : PacketOut
  pub read : read_packet_out message ≡ Ok packet_out
  pub holds : Holds packet_out

-- a switch reads a message as one of these
abbrev pub IsEitherRead : (FlowMod → Type 0) → (PacketOut → Type 0) → List ℕ → Type 0
IsEitherRead OfFlowMod OfPacketOut message = IsReadAs OfFlowMod message ⊎ IsReadAsOut OfPacketOut message

-- a switch reads a message as an inquiry that the slice may make
pub record IsReadAsInquiry (rules : List Rule) (slot : ℕ) (message : List ℕ) : Type 0 where
  pub asked : FromController
  pub read : read_controller message ≡ Ok asked
  pub may : MayBeAsked rules slot asked

-- a switch reads a message as a flow-mod of which one thing holds, as a packet-out of which another does, or as such an inquiry
abbrev pub IsReadThat : (FlowMod → Type 0) → (PacketOut → Type 0) → List Rule → ℕ → List ℕ → Type 0
IsReadThat OfFlowMod OfPacketOut rules slot message = IsEitherRead OfFlowMod OfPacketOut message ⊎ IsReadAsInquiry rules slot message
