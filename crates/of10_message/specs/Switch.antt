-- What a switch sends, read from its bytes, or the first thing that is wrong with them (OpenFlow 1.0.0, section 5; the order of what is looked at is this proxy's own rule, and is that of a controller's message).
use Rattle.std.specs.Prelude.{ℕ, Bool, true, false, if◌then◌else◌, List, drop, Result, Ok, Err}
use Rattle.of10_ctl.specs.declared.kind.TheConstants as kinds
use Rattle.of10_message.specs.declared.config.SwitchConfig.{SwitchConfig}
use Rattle.of10_message.specs.Configs.{read_config}
use Rattle.of10_message.specs.Queues.{QueuesMessage, read_queues}
use Rattle.of10_flow.specs.declared.packet_in.PacketIn.{PacketIn as Packet}
use Rattle.of10_flow.specs.declared.flow_removed.FlowRemoved.{FlowRemoved as Removal}
use Rattle.of10_flow.specs.FlowRemoveds.{read_flow_removed}
use Rattle.of10_flow.specs.PacketIns.{read_packet_in}
use Rattle.of10_port.specs.declared.features.Features.{Features}
use Rattle.of10_port.specs.declared.status.PortStatus.{PortStatus as Status}
use Rattle.of10_port.specs.Features.{read_features}
use Rattle.of10_port.specs.PortStatus.{read_port_status}
use Rattle.of10_stats.specs.declared.reply.StatsPart.{StatsPart}
use Rattle.of10_stats.specs.Replies.{part_of}
use Rattle.of10_message.specs.declared.fault.Unread.{Unread}
use Rattle.of10_message.specs.declared.fault.Unread.TheVariants.{BadLength, BadType}
use Rattle.of10_message.specs.Heads.{is_kind}
use Rattle.of10_message.specs.Forms.{sized, formed, read_as}
use Rattle.of10_message.specs.Errors.{ErrorMessage, read_error}

-- one value for each type of message that a switch sends, with what its body says
pub data SwitchMessage : Type 0 where
  -- section 5.5; any version but 0
  Hello : SwitchMessage
  -- section 5.4.4
  Error : ErrorMessage → SwitchMessage
  -- section 5.5: the body, which goes back as it came
  EchoRequest : List ℕ → SwitchMessage
  -- section 5.5; the bodies of these two aren't read
  EchoReply : SwitchMessage
  Vendor : SwitchMessage
  -- section 5.3.1
  FeaturesReply : Features → SwitchMessage
  -- section 5.3.2
  GetConfigReply : SwitchConfig → SwitchMessage
  -- section 5.4.1
  PacketIn : Packet → SwitchMessage
  -- section 5.4.2
  FlowRemoved : Removal → SwitchMessage
  -- section 5.4.3
  PortStatus : Status → SwitchMessage
  -- section 5.3.5: one part, and the bytes of its entries
  StatsReply : StatsPart → List ℕ → SwitchMessage
  -- section 5.3.7
  BarrierReply : SwitchMessage
  -- section 5.3.4
  QueueGetConfigReply : QueuesMessage → SwitchMessage

-- a part of statistics, whose entries are all behind its front (section 5.3.5)
abbrev pub part_with : List ℕ → StatsPart → SwitchMessage
part_with bytes part = StatsReply part (drop part.from bytes)

-- a message of version 1, by its type: what has no layout here is taken at any length; a reply to a barrier (section 5.3.7) has no body, and all others are read whole
unfoldable pub read_sent : List ℕ → Result SwitchMessage Unread
read_sent bytes =
    if is_kind kinds.PACKET_IN bytes then formed PacketIn (read_packet_in bytes)
    else if is_kind kinds.FLOW_REMOVED bytes then formed FlowRemoved (read_flow_removed bytes)
    else if is_kind kinds.PORT_STATUS bytes then formed PortStatus (read_port_status bytes)
    else if is_kind kinds.ERROR bytes then formed Error (read_error bytes)
    else if is_kind kinds.STATS_REPLY bytes then formed (part_with bytes) (part_of bytes)
    else if is_kind kinds.BARRIER_REPLY bytes then sized 8 BarrierReply bytes
    else if is_kind kinds.QUEUE_GET_CONFIG_REPLY bytes then formed QueueGetConfigReply (read_queues bytes)
    else if is_kind kinds.FEATURES_REPLY bytes then formed FeaturesReply (read_features bytes)
    else if is_kind kinds.GET_CONFIG_REPLY bytes then formed GetConfigReply (read_config bytes)
    else if is_kind kinds.ECHO_REQUEST bytes then Ok (EchoRequest (drop 8 bytes))
    else if is_kind kinds.ECHO_REPLY bytes then Ok EchoReply
    else if is_kind kinds.VENDOR bytes then Ok Vendor
    else Err BadType

-- what a switch's message says, or the first thing that is wrong with it: a length that doesn't count its header, no version in common, another version, a type that no switch sends, or the form of its type
unfoldable pub read_switch : List ℕ → Result SwitchMessage Unread
read_switch bytes = read_as Hello read_sent bytes

-- what was read of a message whose length doesn't count its header
abbrev pub has_bad_length : Result SwitchMessage Unread → Bool
has_bad_length (Err BadLength) = true
has_bad_length said = false
