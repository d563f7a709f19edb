-- What the answers of a slice turn on in its controller's messages (OpenFlow 1.0.0, section 5).
use Rattle.std.specs.Prelude.{ℕ, ◌==◌, Bool, true, false, if◌then◌else◌, List, ◌++◌, length, take, min, Option, Some, None, Result, Ok, Err}
use Rattle.of10_action.specs.Actions.{padding}
use Rattle.of10_message.specs.declared.controller.FromController.{FromController}
use Rattle.of10_message.specs.declared.controller.FromController.TheVariants as said
use Rattle.of10_message.specs.declared.fault.Unread.{Unread}
use Rattle.of10_message.specs.declared.fault.Unread.TheVariants.{BadLength, NoCommonVersion}
use Rattle.of10_message.specs.Heads.{xid_of}
use Rattle.of10_message.specs.Controller.{read_controller}
use Rattle.of10_stats.specs.declared.request.StatsRequest.TheVariants as statistics
use Rattle.xid_map.specs.declared.asked.Asked.{Asked}
use Rattle.xid_map.specs.declared.asked.AskKind.{AskKind}
use Rattle.xid_map.specs.declared.asked.AskKind.TheVariants as kinds

-- what was read of a message
abbrev pub Reading : Type 0
Reading = Result FromController Unread

-- ---- connections

-- a message ends its connection: its length field doesn't count the header, as it should (section 5.1), or it is a HELLO of version 0, which has no version in common with this proxy (section 4.2). That each of them ends the connection, whenever it comes, is this proxy's own rule
abbrev pub ends_connection : Reading → Bool
ends_connection (Err BadLength) = true
ends_connection (Err NoCommonVersion) = true
ends_connection read = false

-- the same of its bytes
abbrev pub is_dismissing : List ℕ → Bool
is_dismissing message = ends_connection (read_controller message)

-- ---- settings of the switch

-- how many bytes of a packet that no entry matched a message asks for: a SET_CONFIG that wants fragments handled as usual (section 5.3.2)
abbrev pub length_wanted : Reading → Option ℕ
length_wanted (Ok (said.SetConfig config)) = if config.flags == 0 then Some config.miss_send_len else None
length_wanted read = None

-- the same of its bytes
abbrev pub length_set : List ℕ → Option ℕ
length_set message = length_wanted (read_controller message)

-- ---- requests

-- a message that is to be sent on to the switch: flow-mods (section 5.3.3), packet-outs (5.3.6), requests for statistics (5.3.5), barriers (5.3.7) and questions for queues (5.3.4)
abbrev pub asks_switch : Reading → Bool
asks_switch (Ok (said.PacketOut m)) = true
asks_switch (Ok (said.FlowMod m)) = true
asks_switch (Ok (said.StatsRequest request)) = true
asks_switch (Ok said.BarrierRequest) = true
asks_switch (Ok (said.QueueGetConfigRequest queues)) = true
asks_switch read = false

-- the same of its bytes
abbrev pub is_question : List ℕ → Bool
is_question message = asks_switch (read_controller message)

-- what such a message asks for
abbrev pub kind_asked : Reading → AskKind
kind_asked (Ok (said.PacketOut m)) = kinds.PacketOut
kind_asked (Ok (said.FlowMod m)) = kinds.FlowMod
kind_asked (Ok (said.StatsRequest statistics.Desc)) = kinds.Desc
kind_asked (Ok (said.StatsRequest (statistics.Flow pattern table out_port))) = kinds.Flow
kind_asked (Ok (said.StatsRequest (statistics.Aggregate pattern table out_port))) = kinds.Aggregate
kind_asked (Ok (said.StatsRequest (statistics.Port port))) = kinds.Port
kind_asked (Ok (said.StatsRequest (statistics.Queue port queue))) = kinds.Queue
kind_asked (Ok (said.QueueGetConfigRequest queues)) = kinds.QueueConfig
kind_asked read = kinds.Barrier

-- the port that it asks for, where it asks for the queues of one
abbrev pub port_asked : Reading → ℕ
port_asked (Ok (said.QueueGetConfigRequest queues)) = queues.port
port_asked read = 0

-- a request as it is remembered: with the slice's own transaction id, and with the first 64 bytes, which an error carries back (section 5.4.4)
abbrev pub asked_of : Reading → List ℕ → Asked
asked_of read message = record {
  xid = xid_of message;
  first = take 64 (message ++ padding 64);
  first_len = min (length message) 64;
  kind = kind_asked read;
  port = port_asked read;
}

-- the first bytes of a request's message
abbrev pub quoted : Asked → List ℕ
quoted asked = take asked.first_len asked.first
