-- Which packets a slice may use by number: those that the switch keeps for it (this proxy's own rule; what a buffer is says OpenFlow 1.0.0, section 5.4.1).
use Rattle.std.specs.Prelude.{ℕ, ◌+◌, ◌^◌, ◌%◌, ◌==◌, not, leb, Bool, if◌then◌else◌, List, [], ◌∷◌, filter, find, Option, None}
use Rattle.std.specs.List.{list_any}
use Rattle.of10_model.specs.Header.{Header}
use Rattle.of10_model.specs.Normal.{is_value}
use Rattle.frame_header.specs.Headers.{header_of_packet}
use Rattle.slice_words.specs.Messages.{is_dismissing}
use Rattle.slice_words.specs.Items.{Packet, Item, Up, Down, Msg, Lost, Handed, is_buffered, buffered_count}
use Rattle.slice_words.specs.Pasts.{Outgoing, Modifies, SendsOut, Asks, Answer, Past, view_in}

-- a buffered packet of a slice: how many it was given before, and its header
pub record HeldPacket : Type 0 where
  pub ordinal : ℕ
  pub header : Header

-- the header of a packet that is handed up
abbrev pub packet_header : Packet → Header
packet_header packet = header_of_packet packet.in_port packet.payload

-- the packet that a message for the switch names, by how many the slice was given before it
abbrev pub packet_named : Outgoing → Option ℕ
packet_named (Modifies m packet) = packet
packet_named (SendsOut m packet) = packet
packet_named (Asks inquiry xid) = None

-- one of these messages names it
abbrev pub is_named : ℕ → List Outgoing → Bool
is_named ordinal messages = list_any (λ message. is_value ordinal (packet_named message)) messages

-- of so many packets it is among the last 256
abbrev pub is_recent_packet : ℕ → HeldPacket → Bool
is_recent_packet count packet = leb count (packet.ordinal + 256)

-- the packets that are held after an item, and what followed from it, where these were before and the slice was given so many. A buffered packet that is handed up takes the place of the one 256 before it. A lost packet is dropped. A connection that begins or ends drops all. What is sent on uses the packets that it names
abbrev pub held_after : ℕ → Item → Answer → List HeldPacket → List HeldPacket
held_after count Up answer held = []
held_after count Down answer held = []
held_after count (Msg message moment) answer held = if is_dismissing message then [] else filter (λ packet. not (is_named packet.ordinal answer.to_switch)) held
held_after count (Lost k) answer held = filter (λ packet. not (packet.ordinal == k)) held
held_after count (Handed packet) answer held =
    if is_buffered packet.share then record { ordinal = count; header = packet_header packet } ∷ filter (is_recent_packet (count + 1)) held else held
held_after count item answer held = held

-- the packets that the slice holds, the newest first
abbrev pub held_packets : List Past → List HeldPacket
held_packets [] = []
held_packets (p ∷ past) = held_after (buffered_count (view_in past)) p.item p.answer (held_packets past)

-- a packet has a number: how many were given before it, in 24 bits
abbrev pub has_number : ℕ → HeldPacket → Bool
has_number number packet = packet.ordinal % 2 ^ 24 == number

-- the one that has a number
abbrev pub packet_under : ℕ → List HeldPacket → Option HeldPacket
packet_under number held = find (λ packet. has_number number packet) held
