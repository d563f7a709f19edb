-- What a slice's controller sends, with the port numbers exchanged where they stand, and what is read of it, with its port numbers exchanged (OpenFlow 1.0.0, sections 5.3.3 to 5.3.6; that they are exchanged is this proxy's own rule).
use Rattle.std.specs.Prelude.{ℕ, List, [], ◌∷◌, Result, Ok, Err}
use Rattle.of10_message.specs.declared.queues.QueuesQuestion.{QueuesQuestion}
use Rattle.of10_stats.specs.declared.request.StatsRequest.{StatsRequest}
use Rattle.of10_stats.specs.declared.request.StatsRequest.TheVariants.{Flow, Aggregate, Port, Queue}
use Rattle.of10_message.specs.declared.controller.FromController.{FromController}
use Rattle.of10_message.specs.declared.controller.FromController.TheVariants as said
use Rattle.of10_message.specs.declared.fault.Unread.{Unread}
use Rattle.of10_message.specs.Controller.{read_controller}
use Rattle.flowspace.specs.Swaps.{Pairs}
use Rattle.port_turns.specs.Turned.{turned_pattern, turned_flow_mod, turned_packet_out}
use Rattle.port_turns.specs.Turns.{turn_port, turn_match, turn_flow_mod, turn_packet_out}

-- ---- bytes

-- a request for flow entries: its match at 12, and its out_port at 54
abbrev pub turn_entries : Pairs → List ℕ → List ℕ
turn_entries pairs bytes = turn_port pairs 54 (turn_match pairs 12 bytes)

-- a request for statistics: of a port or of its queues the port at 12
abbrev pub turn_request : Pairs → StatsRequest → List ℕ → List ℕ
turn_request pairs (Flow pattern table out_port) bytes = turn_entries pairs bytes
turn_request pairs (Aggregate pattern table out_port) bytes = turn_entries pairs bytes
turn_request pairs (Port port) bytes = turn_port pairs 12 bytes
turn_request pairs (Queue port queue) bytes = turn_port pairs 12 bytes
turn_request pairs request bytes = bytes

-- a message by what was read of it; of a question for queues the port at 8
abbrev pub turn_said : Pairs → FromController → List ℕ → List ℕ
turn_said pairs (said.PacketOut m) bytes = turn_packet_out pairs bytes
turn_said pairs (said.FlowMod m) bytes = turn_flow_mod pairs bytes
turn_said pairs (said.StatsRequest request) bytes = turn_request pairs request bytes
turn_said pairs (said.QueueGetConfigRequest queues) bytes = turn_port pairs 8 bytes
turn_said pairs message bytes = bytes

-- one that isn't read stays as it is
abbrev pub turn_by : Pairs → Result FromController Unread → List ℕ → List ℕ
turn_by pairs (Ok message) bytes = turn_said pairs message bytes
turn_by pairs (Err fault) bytes = bytes

-- the bytes of a controller's message with the port numbers exchanged where they stand; without pairs they stay
unfoldable pub turn_in : Pairs → List ℕ → List ℕ
turn_in [] bytes = bytes
turn_in (pair ∷ others) bytes = turn_by (pair ∷ others) (read_controller bytes) bytes

-- what is read of a message once its port numbers are exchanged
abbrev pub read_turned : Pairs → List ℕ → Result FromController Unread
read_turned pairs bytes = read_controller (turn_in pairs bytes)

-- ---- values

abbrev pub turned_request : (ℕ → ℕ) → StatsRequest → StatsRequest
turned_request exchange (Flow pattern table out_port) = Flow (turned_pattern exchange pattern) table (exchange out_port)
turned_request exchange (Aggregate pattern table out_port) = Aggregate (turned_pattern exchange pattern) table (exchange out_port)
turned_request exchange (Port port) = Port (exchange port)
turned_request exchange (Queue port queue) = Queue (exchange port) queue
turned_request exchange request = request

abbrev pub turned_queues : (ℕ → ℕ) → QueuesQuestion → QueuesQuestion
turned_queues exchange queues = record queues { port = exchange queues.port }

abbrev pub turned_said : (ℕ → ℕ) → FromController → FromController
turned_said exchange (said.PacketOut m) = said.PacketOut (turned_packet_out exchange m)
turned_said exchange (said.FlowMod m) = said.FlowMod (turned_flow_mod exchange m)
turned_said exchange (said.StatsRequest request) = said.StatsRequest (turned_request exchange request)
turned_said exchange (said.QueueGetConfigRequest queues) = said.QueueGetConfigRequest (turned_queues exchange queues)
turned_said exchange message = message

-- what was read of a message, with its port numbers exchanged, or what is wrong with it
abbrev pub turned_read : (ℕ → ℕ) → Result FromController Unread → Result FromController Unread
turned_read exchange (Ok message) = Ok (turned_said exchange message)
turned_read exchange (Err fault) = Err fault
