-- What was read of a slice's message, with each port number exchanged (OpenFlow 1.0.0, sections 5.2.3, 5.2.4, 5.3.3 and 5.3.6; that they are exchanged is this proxy's own rule).
use Rattle.std.specs.Prelude.{ℕ, [], ◌∷◌, map, option_map}
use Rattle.of10_model.specs.declared.pattern.Pattern.{Pattern}
use Rattle.of10_action.specs.declared.action.Action.{Action}
use Rattle.of10_action.specs.declared.action.Action.TheVariants.{Output, Enqueue}
use Rattle.of10_flow.specs.declared.flow_mod.FlowMod.{FlowMod}
use Rattle.of10_flow.specs.declared.packet_out.PacketOut.{PacketOut}
use Rattle.flowspace.specs.Swaps.{Pairs}
use Rattle.port_turns.specs.Turns.{written}

-- the number that stands for a port: the port itself where there are no pairs
abbrev pub exchanged : Pairs → ℕ → ℕ
exchanged [] port = port
exchanged (pair ∷ others) port = written (pair ∷ others) port

-- OUTPUT and ENQUEUE name a port
abbrev pub turned_action : (ℕ → ℕ) → Action → Action
turned_action exchange (Output port max_len) = Output (exchange port) max_len
turned_action exchange (Enqueue port queue) = Enqueue (exchange port) queue
turned_action exchange action = action

-- a match names one where in_port isn't free
abbrev pub turned_pattern : (ℕ → ℕ) → Pattern → Pattern
turned_pattern exchange m = record m { in_port = option_map exchange m.in_port }

-- a flow-mod: its match, its out_port and its actions
abbrev pub turned_flow_mod : (ℕ → ℕ) → FlowMod → FlowMod
turned_flow_mod exchange m = record m { pattern = turned_pattern exchange m.pattern; out_port = exchange m.out_port; actions = map (turned_action exchange) m.actions }

-- a packet-out: its in_port and its actions
abbrev pub turned_packet_out : (ℕ → ℕ) → PacketOut → PacketOut
turned_packet_out exchange m = record m { in_port = exchange m.in_port; actions = map (turned_action exchange) m.actions }
