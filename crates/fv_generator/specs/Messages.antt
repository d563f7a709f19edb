-- The messages that are drawn (this proxy's own rule). What is drawn first stands first.
use Rattle.std.specs.Prelude.{ℕ, ◌+◌, ◌==◌, ltb, if◌then◌else◌, List, [], ◌∷◌}
use Rattle.of10_action.specs.declared.action.Action.{Action}
use Rattle.of10_action.specs.declared.action.Action.TheVariants.{Output}
use Rattle.of10_ctl.specs.declared.kind.TheConstants.{BARRIER_REQUEST}
use Rattle.of10_ctl.specs.Frames.{message_of}
use Rattle.of10_flow.specs.declared.protocol.TheConstants.{ADD, NO_BUFFER, SEND_FLOW_REM}
use Rattle.of10_flow.specs.PacketIns.{spell_packet_in}
use Rattle.of10_flow.specs.PacketOuts.{spell_packet_out}
use Rattle.of10_flow.specs.FlowMods.{spell_flow_mod}
use Rattle.of10_port.specs.declared.protocol.TheConstants.{NONE}
use Rattle.fv_generator.specs.Drawing.{Drawing, draw, drawn_none, ◌>>=◌}
use Rattle.fv_generator.specs.Packets.{packet_to, tcp_from}

-- ---- parts of messages

-- the TCP ports of packets: alice's, bob's, and one that is nobody's
abbrev pub tcp_port : ℕ → ℕ
tcp_port place = if place == 0 then 80 else if place == 1 then 22 else 443

-- one of the three ports of the switch
abbrev pub drawn_port : Drawing ℕ
drawn_port = do
  place ← draw 3
  drawn_none (1 + place)

-- an output to one of them
abbrev pub drawn_output : Drawing (List Action)
drawn_output = do
  port ← drawn_port
  drawn_none (Output port 0 ∷ [])

-- none or one of 64 buffers: which of them is drawn only where one is
abbrev pub drawn_buffer : Drawing ℕ
drawn_buffer = do
  buffered ← draw 2
  if buffered == 0 then drawn_none NO_BUFFER else draw 64

-- ---- messages

-- a packet to one of the three TCP ports, that no entry of the switch matched
abbrev pub drawn_packet_in : Drawing (List ℕ)
drawn_packet_in = do
  place ← draw 3
  buffer ← drawn_buffer
  in_port ← drawn_port
  drawn_none (spell_packet_in (record { xid = 0; buffer = buffer; total_len = 54; in_port = in_port; reason = 0; payload = packet_to (tcp_port place) }))

-- an entry for the TCP packets from one of 100 ports, in one of four priorities, whose removal is to be reported
abbrev pub drawn_flow_mod : ℕ → Drawing (List ℕ)
drawn_flow_mod xid = do
  from ← draw 100
  priority ← draw 4
  actions ← drawn_output
  drawn_none (spell_flow_mod (record { xid = xid; pattern = tcp_from from; cookie = 0; command = ADD; idle = 0; hard = 0; priority = priority; buffer = NO_BUFFER; out_port = NONE; flags = SEND_FLOW_REM; actions = actions }))

-- a packet to alice's or to bob's TCP port
abbrev pub drawn_packet_out : ℕ → Drawing (List ℕ)
drawn_packet_out xid = do
  actions ← drawn_output
  place ← draw 2
  drawn_none (spell_packet_out (record { xid = xid; buffer = NO_BUFFER; in_port = 1; actions = actions; payload = packet_to (tcp_port place) }))

-- a barrier, of which nothing is drawn
abbrev pub barrier : ℕ → Drawing (List ℕ)
barrier xid = drawn_none (message_of BARRIER_REQUEST xid [])

-- a slice's message of a kind: a flow-mod under 6, a packet-out for 6, a barrier above
abbrev pub drawn_request : ℕ → ℕ → Drawing (List ℕ)
drawn_request kind xid = if ltb kind 6 then drawn_flow_mod xid else if kind == 6 then drawn_packet_out xid else barrier xid
