-- What a controller sends to its slice, read from its bytes, or the first thing that is wrong with them (OpenFlow 1.0.0, section 5; the order of what is looked at is this proxy's own rule).
use Rattle.std.specs.Prelude.{ℕ, if◌then◌else◌, List, drop, Result, Ok, Err}
use Rattle.of10_ctl.specs.declared.kind.TheConstants.{ERROR, ECHO_REQUEST, ECHO_REPLY, VENDOR, FEATURES_REQUEST, GET_CONFIG_REQUEST, SET_CONFIG, PACKET_OUT, FLOW_MOD, PORT_MOD, STATS_REQUEST, BARRIER_REQUEST, QUEUE_GET_CONFIG_REQUEST}
use Rattle.of10_message.specs.Configs.{read_config}
use Rattle.of10_message.specs.Queues.{read_queues_request}
use Rattle.of10_flow.specs.PacketOuts.{read_packet_out}
use Rattle.of10_flow.specs.FlowMods.{read_flow_mod}
use Rattle.of10_stats.specs.Requests.{read_request}
use Rattle.of10_message.specs.declared.controller.FromController.{FromController}
use Rattle.of10_message.specs.declared.controller.FromController.TheVariants as said
use Rattle.of10_message.specs.declared.fault.Unread.{Unread}
use Rattle.of10_message.specs.declared.fault.Unread.TheVariants.{BadType}
use Rattle.of10_message.specs.Heads.{is_kind}
use Rattle.of10_message.specs.Forms.{sized, formed, read_as}

-- a message of version 1, by its type. What has no layout here is taken at any length, and of an echo the whole body (section 5.5). Three types have no body (sections 5.3.1, 5.3.2, 5.3.7). How the switch is to be set (5.3.2), packet-outs (5.3.6), flow-mods (5.3.3), statistics requests (5.3.5) and questions for queues (5.3.4) are read whole
unfoldable pub read_typed : List ℕ → Result FromController Unread
read_typed bytes =
    if is_kind ERROR bytes then Ok said.Error
    else if is_kind ECHO_REQUEST bytes then Ok (said.EchoRequest (drop 8 bytes))
    else if is_kind ECHO_REPLY bytes then Ok said.EchoReply
    else if is_kind VENDOR bytes then Ok said.Vendor
    else if is_kind FEATURES_REQUEST bytes then sized 8 said.FeaturesRequest bytes
    else if is_kind GET_CONFIG_REQUEST bytes then sized 8 said.GetConfigRequest bytes
    else if is_kind SET_CONFIG bytes then formed said.SetConfig (read_config bytes)
    else if is_kind PACKET_OUT bytes then formed said.PacketOut (read_packet_out bytes)
    else if is_kind FLOW_MOD bytes then formed said.FlowMod (read_flow_mod bytes)
    else if is_kind PORT_MOD bytes then Ok said.PortMod
    else if is_kind STATS_REQUEST bytes then formed said.StatsRequest (read_request bytes)
    else if is_kind BARRIER_REQUEST bytes then sized 8 said.BarrierRequest bytes
    else if is_kind QUEUE_GET_CONFIG_REQUEST bytes then formed said.QueueGetConfigRequest (read_queues_request bytes)
    else Err BadType

-- what a controller's message says, or the first thing that is wrong with it: a length that doesn't count its header, no version in common, another version, a type that no controller sends, or the form of its type
unfoldable pub read_controller : List ℕ → Result FromController Unread
read_controller bytes = read_as said.Hello read_typed bytes
