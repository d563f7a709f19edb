-- What follows from a packet-out of a slice (OpenFlow 1.0.0, section 5.3.6). Which lines refuse it, and in which order, and what a probe is, is this proxy's own rule.
use Rattle.std.specs.Prelude.{ℕ, ◌+◌, ◌-◌, ◌==◌, ◌&&◌, ◌||◌, not, nat_lt, Bool, false, true, if◌then◌else◌, List, [], ◌∷◌, ◌++◌, length, Option, Some, None, option_map, is_none, Result}
use Rattle.std.specs.List.{list_any}
use Rattle.of10_model.specs.Header.{Header}
use Rattle.of10_model.specs.Pattern.{has}
use Rattle.of10_model.specs.Inclusion.{any_in_port}
use Rattle.of10_action.specs.declared.action.Action.{Action}
use Rattle.of10_action.specs.Actions.{spelling, padding}
use Rattle.of10_action.specs.Reading.{list_given}
use Rattle.of10_port.specs.declared.protocol.TheConstants.{NONE, CONTROLLER}
use Rattle.of10_flow.specs.declared.protocol.TheConstants.{NO_BUFFER}
use Rattle.of10_flow.specs.declared.packet_out.PacketOut.{PacketOut}
use Rattle.frame_header.specs.Probes.{trailer}
use Rattle.flow_facts.specs.PacketOuts.{carried_header, is_probe}
use Rattle.action_check.specs.declared.origin.Origin.{Origin}
use Rattle.action_check.specs.declared.origin.Origin.TheVariants as origins
use Rattle.action_check.specs.Permitted.{permitted}
use Rattle.port_view.specs.SlicePorts.{flooded}
use Rattle.slice_words.specs.Items.{lone_rules, is_own_port}
use Rattle.slice_words.specs.Pasts.{Outgoing, SendsOut}
use Rattle.slice_words.specs.Buffers.{HeldPacket}
use Rattle.flowspace.specs.Options.{first_some, when}
use Rattle.slice_words.specs.FlowMods.{Ground, packet_at, unknown_buffer, bad_action, too_many_actions, is_too_long, not_permitted, code_given}

-- ---- the packet

-- it names a packet that the switch has
abbrev pub is_buffered_out : PacketOut → Bool
is_buffered_out m = not (m.buffer == NO_BUFFER)

-- a probe's packet is filled with zero bytes to 52 bytes, and the slice's mark follows
abbrev pub marked : ℕ → List ℕ → List ℕ
marked slot packet = packet ++ padding (52 - length packet) ++ trailer slot

-- ---- what is sent on

-- what its actions are applied to: the packet that the slice holds, a probe, or the packet that it carries
abbrev pub origin_with : Option HeldPacket → PacketOut → Origin
origin_with (Some packet) m = origins.Packet packet.header
origin_with None m = if is_probe m then origins.Probe m.in_port else origins.Packet (carried_header m)

-- the action list that the slice may have for it, or the code of the first action that is forbidden
abbrev pub permitted_out : Ground → PacketOut → Result (List Action) ℕ
permitted_out g m = permitted (lone_rules g.slot g.patterns) g.slot (origin_with (packet_at g m.buffer) m) m.actions (flooded false g.ports) (flooded true g.ports)

-- a packet that the slice holds counts as received where it was, and isn't sent along; a probe gets the slice's mark
abbrev pub sent_out_with : Option HeldPacket → Ground → PacketOut → List Action → PacketOut
sent_out_with (Some packet) g m actions = record { xid = g.xid; buffer = NO_BUFFER; in_port = packet.header.in_port; actions = actions; payload = [] }
sent_out_with None g m actions = record { xid = g.xid; buffer = NO_BUFFER; in_port = m.in_port; actions = actions; payload = if is_probe m then marked g.slot m.payload else m.payload }

-- the packet-out that is sent, under the transaction id that the slice gets next, but for the switch's number of the packet
abbrev pub packet_out_on : Ground → PacketOut → PacketOut
packet_out_on g m = sent_out_with (packet_at g m.buffer) g m (list_given (permitted_out g m))

-- the same for the switch, with the packet that it names
abbrev pub sent_out : Ground → PacketOut → List Outgoing
sent_out g m = SendsOut (packet_out_on g m) (option_map (λ packet. packet.ordinal) (packet_at g m.buffer)) ∷ []

-- ---- the lines that refuse

-- it names a packet that isn't held
abbrev pub names_no_packet : Ground → PacketOut → Option (ℕ × ℕ)
names_no_packet g m = when (is_buffered_out m && is_none (packet_at g m.buffer)) unknown_buffer

-- a packet may count as received by a port of the slice, by none, and from the controller (section 5.2.1)
abbrev pub may_come_by : Ground → ℕ → Bool
may_come_by g port = is_own_port g.slot g.patterns port || port == NONE || port == CONTROLLER

-- a packet that it carries comes by another port
abbrev pub comes_by_another : Ground → PacketOut → Option (ℕ × ℕ)
comes_by_another g m = when (not (is_buffered_out m) && not (may_come_by g m.in_port)) not_permitted

-- some rule of the slice has the header, by whichever port it came in
abbrev pub lies_aside : Ground → Header → Bool
lies_aside g header = list_any (λ pattern. has (any_in_port pattern) header) g.patterns

-- the slice may not write the packet that it carries, which is no probe
abbrev pub carries_another : Ground → PacketOut → Option (ℕ × ℕ)
carries_another g m = when (not (is_buffered_out m) && not (is_probe m) && not (lies_aside g (carried_header m))) not_permitted

-- an action is forbidden
abbrev pub forbidden_out : Ground → PacketOut → Option (ℕ × ℕ)
forbidden_out g m = option_map bad_action (code_given (permitted_out g m))

-- bytes of the message
abbrev pub packet_out_size : PacketOut → ℕ
packet_out_size m = 16 + length (spelling m.actions) + length m.payload

-- the list is too long, or the message is
abbrev pub out_too_large : Ground → PacketOut → Option (ℕ × ℕ)
out_too_large g m = when (is_too_long (list_given (permitted_out g m)) || nat_lt 65535 (packet_out_size (packet_out_on g m))) too_many_actions

-- the class and code of the first line that applies
unfoldable pub packet_out_fault : Ground → PacketOut → Option (ℕ × ℕ)
packet_out_fault g m =
    first_some
    (names_no_packet g m
    ∷ comes_by_another g m
    ∷ carries_another g m
    ∷ forbidden_out g m
    ∷ out_too_large g m
    ∷ [])
