-- Where the port numbers stand in a message of a slice's own, by what was read of it (OpenFlow 1.0.0, sections 5.3.3 to 5.3.6).
use Rattle.std.specs.Prelude.{ℕ, ◌≡◌, ◌+◌, ◌≤◌, true, List, length, take, drop, is_ok, Result, Ok, Err}
use Rattle.of10_model.specs.Normal.{number_at}
use Rattle.of10_action.specs.Reading.{read_all}
use Rattle.of10_stats.specs.declared.request.StatsRequest.{StatsRequest}
use Rattle.of10_stats.specs.declared.request.StatsRequest.TheVariants as asks
use Rattle.of10_message.specs.declared.controller.FromController.{FromController}
use Rattle.of10_message.specs.declared.controller.FromController.TheVariants as said
use Rattle.of10_message.specs.declared.fault.Unread.{Unread}
use Rattle.flowspace.specs.Swaps.{Pairs}
use Rattle.port_turns.specs.declared.receiving.Layout.{Layout}
use Rattle.port_turns.specs.declared.receiving.Layout.TheVariants as laid
use Rattle.port_turns.specs.Turns.{turn_port, turn_flow_mod, turn_packet_out}
use Rattle.port_turns.specs.Readings.{turn_entries}

-- a request for statistics: of a port or of its queues the port at 12
abbrev pub layout_of_request : StatsRequest → Layout
layout_of_request (asks.Flow pattern table out_port) = laid.Entries
layout_of_request (asks.Aggregate pattern table out_port) = laid.Entries
layout_of_request (asks.Port port) = laid.Port 12
layout_of_request (asks.Queue port queue) = laid.Port 12
layout_of_request request = laid.Other

-- a message; a question for queues has the port at 8
abbrev pub layout_of_said : FromController → Layout
layout_of_said (said.PacketOut m) = laid.PacketOut
layout_of_said (said.FlowMod m) = laid.FlowMod
layout_of_said (said.StatsRequest request) = layout_of_request request
layout_of_said (said.QueueGetConfigRequest queues) = laid.Port 8
layout_of_said message = laid.Other

abbrev pub layout_of : Result FromController Unread → Layout
layout_of (Ok message) = layout_of_said message
layout_of (Err fault) = laid.Other

-- the numbers that stand so are exchanged
abbrev pub turn_laid : Pairs → Layout → List ℕ → List ℕ
turn_laid pairs laid.FlowMod bytes = turn_flow_mod pairs bytes
turn_laid pairs laid.PacketOut bytes = turn_packet_out pairs bytes
turn_laid pairs laid.Entries bytes = turn_entries pairs bytes
turn_laid pairs (laid.Port place) bytes = turn_port pairs place bytes
turn_laid pairs laid.Other bytes = bytes

-- numbers stand so within a message, behind its header, and its actions are right
abbrev pub AreLaid : List ℕ → Layout → Type 0
AreLaid bytes laid.FlowMod = (72 ≤ length bytes) × (is_ok (read_all (drop 72 bytes)) ≡ true)
AreLaid bytes laid.PacketOut = (16 + number_at bytes 14 2 ≤ length bytes) × (is_ok (read_all (take (number_at bytes 14 2) (drop 16 bytes))) ≡ true)
AreLaid bytes laid.Entries = 56 ≤ length bytes
AreLaid bytes (laid.Port place) = (8 ≤ place) × (place + 2 ≤ length bytes)
AreLaid bytes laid.Other = Unit {0}
