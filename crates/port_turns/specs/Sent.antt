-- The bytes of a message for a slice with its port numbers exchanged where they stand: all other bytes stay. Sections are those of OpenFlow 1.0.0; that numbers are exchanged, and which message has the form of its type, is this proxy's own rule.
use Rattle.std.specs.Prelude.{ℕ, zero, suc, ◌+◌, ◌-◌, ◌≤◌, ◌==◌, ◌&&◌, ◌||◌, not, leb, Bool, if◌then◌else◌, List, [], ◌∷◌, ◌++◌, length, take, drop, is_ok, unwrap_or, IsTrue}
use Rattle.of10_model.specs.Normal.{number_at}
use Rattle.of10_action.specs.Reading.{read_all}
use Rattle.of10_ctl.specs.declared.kind.TheConstants.{FEATURES_REPLY, PACKET_IN, FLOW_REMOVED, PORT_STATUS, STATS_REPLY, QUEUE_GET_CONFIG_REPLY}
use Rattle.of10_ctl.specs.Frames.{is_bad}
use Rattle.of10_message.specs.Heads.{version_of, message_kind}
use Rattle.of10_port.specs.Ports.{port_number, port_bytes, ports_in}
use Rattle.of10_port.specs.Features.{has_whole_ports}
use Rattle.of10_stats.specs.declared.protocol.TheConstants.{FLOW, PORT, QUEUE}
use Rattle.of10_stats.specs.Replies.{entry_size_of}
use Rattle.flowspace.specs.Order.{ranked}
use Rattle.flowspace.specs.Swaps.{Pairs}
use Rattle.port_turns.specs.declared.places.Piece.{Piece}
use Rattle.port_turns.specs.declared.places.Piece.TheVariants as piece
use Rattle.port_turns.specs.declared.places.Places.{Places}
use Rattle.port_turns.specs.declared.places.Places.TheVariants as at
use Rattle.port_turns.specs.Turns.{turn_port, turn_match, turn_list}

-- ---- where numbers stand

-- by the type and the length of a message, which its type allows: a packet-in (section 5.4.1), a removed entry (5.4.2), a port's status (5.4.3), the queues of a port (5.3.4), statistics (5.3.5) and a switch's ports (5.3.1)
abbrev pub places_by : ℕ → List ℕ → Places
places_by kind f =
    if kind == PACKET_IN && leb 18 (length f) then at.Port 14
    else if kind == FLOW_REMOVED && length f == 88 then at.Match 8
    else if kind == PORT_STATUS && length f == 64 then at.Port 16
    else if kind == QUEUE_GET_CONFIG_REPLY && leb 16 (length f) then at.Port 8
    else if kind == STATS_REPLY && leb 12 (length f) then at.Entries (number_at f 8 2)
    else if kind == FEATURES_REPLY && has_whole_ports f then at.Ports
    else at.Nowhere

-- messages of these types name ports
abbrev pub tells_ports : ℕ → Bool
tells_ports kind = kind == PACKET_IN || kind == FLOW_REMOVED || kind == PORT_STATUS || kind == QUEUE_GET_CONFIG_REPLY || kind == STATS_REPLY || kind == FEATURES_REPLY

-- and statistics of these types (section 5.3.5)
abbrev pub has_port_entries : ℕ → Bool
has_port_entries kind = kind == FLOW || kind == PORT || kind == QUEUE

-- none but in a message of version 1 whose length counts its header (section 5.1)
unfoldable pub places_of : List ℕ → Places
places_of f = if version_of f == 1 && not (is_bad f) then places_by (message_kind f) f else at.Nowhere

-- ---- pieces that stand one behind another

-- the bytes of the port that begins these: none where there are too few (section 5.2.1)
abbrev pub port_size : List ℕ → ℕ
port_size bytes = if leb 48 (length bytes) then 48 else 0

-- the bytes of the entry of a type that begins these: none where no well-formed one does (section 5.3.5)
abbrev pub entry_bytes : ℕ → List ℕ → ℕ
entry_bytes kind bytes = unwrap_or (entry_size_of kind bytes) 0

-- a list of actions, all of which are right (section 5.2.4); any other stays
abbrev pub turn_right : Pairs → List ℕ → List ℕ
turn_right pairs list = if is_ok (read_all list) then turn_list pairs list else list

-- a flow entry: its match at 4, and its actions behind 88 bytes (section 5.3.5)
abbrev pub turn_flow : Pairs → List ℕ → List ℕ
turn_flow pairs own = turn_match pairs 4 (take 88 own) ++ turn_right pairs (drop 88 own)

-- an entry of a type of statistics: of a port or of its queues the port with which it begins (section 5.3.5)
abbrev pub turn_entry : Pairs → ℕ → List ℕ → List ℕ
turn_entry pairs kind own =
    if kind == FLOW then turn_flow pairs own
    else if kind == PORT || kind == QUEUE then turn_port pairs 0 own
    else own

-- how many bytes the piece has that begins these, and the piece with its numbers exchanged
abbrev pub piece_size : Piece → List ℕ → ℕ
piece_size piece.Port bytes = port_size bytes
piece_size (piece.Entry kind) bytes = entry_bytes kind bytes

abbrev pub turn_piece : Pairs → Piece → List ℕ → List ℕ
turn_piece pairs piece.Port own = turn_port pairs 0 own
turn_piece pairs (piece.Entry kind) own = turn_entry pairs kind own

-- each piece is turned, up to the first that isn't whole, and at most as many as the count: what is behind stays
unfoldable pub turn_pieces : Pairs → Piece → ℕ → List ℕ → List ℕ
turn_pieces pairs one zero bytes = bytes
turn_pieces pairs one (suc n) bytes =
    let size = piece_size one bytes in
    if size == 0 then bytes
    else turn_piece pairs one (take size bytes) ++ turn_pieces pairs one n (drop size bytes)

-- all of them, of which there are no more than bytes
abbrev pub turn_all : Pairs → Piece → List ℕ → List ℕ
turn_all pairs one bytes = turn_pieces pairs one (length bytes) bytes

-- ---- messages

-- the numbers of a message: entries stand behind 12 bytes (section 5.3.5), and ports behind 32 (section 5.3.1)
abbrev pub turn_at : Pairs → Places → List ℕ → List ℕ
turn_at pairs (at.Port place) f = turn_port pairs place f
turn_at pairs (at.Match place) f = turn_match pairs place f
turn_at pairs (at.Entries kind) f = take 12 f ++ turn_all pairs (piece.Entry kind) (drop 12 f)
turn_at pairs at.Ports f = take 32 f ++ turn_all pairs piece.Port (drop 32 f)
turn_at pairs at.Nowhere f = f

-- a message with its numbers exchanged; without pairs it stays
unfoldable pub turned_numbers : Pairs → List ℕ → List ℕ
turned_numbers [] f = f
turned_numbers (pair ∷ others) f = turn_at (pair ∷ others) (places_of f) f

-- how far the number of a port is below the greatest of two bytes
abbrev pub descent : List ℕ → ℕ
descent port = 65535 - port_number port

-- ports by ascending number, and those of one number as they stood
abbrev pub in_number_order : List (List ℕ) → List (List ℕ)
in_number_order ports = ranked descent ports

-- a message that lists a switch's ports, with the ports in this order
abbrev pub ports_sorted : List ℕ → List ℕ
ports_sorted f = take 32 f ++ port_bytes (in_number_order (ports_in (drop 32 f)))

-- a message that lists a switch's ports has them sorted; any other stays
abbrev pub sorted_at : Places → List ℕ → List ℕ
sorted_at at.Ports f = ports_sorted f
sorted_at place f = f

-- a message as it is sent to the slice
unfoldable pub turn_out : Pairs → List ℕ → List ℕ
turn_out [] f = f
turn_out (pair ∷ others) f = sorted_at (places_of f) (turned_numbers (pair ∷ others) f)

-- ---- parts of a message

-- a part of the bytes, at a place and so long, is turned
abbrev pub turned_part : (List ℕ → List ℕ) → ℕ → ℕ → List ℕ → List ℕ
turned_part turn place size bytes = take place bytes ++ (turn (take size (drop place bytes)) ++ drop (place + size) bytes)

-- numbers stand within a message, behind its header
abbrev pub AreWithin : List ℕ → Places → Type 0
AreWithin f (at.Port place) = (8 ≤ place) × (place + 2 ≤ length f)
AreWithin f (at.Match place) = (8 ≤ place) × (place + 40 ≤ length f)
AreWithin f (at.Entries kind) = 12 ≤ length f
AreWithin f at.Ports = (32 ≤ length f) × IsTrue (has_whole_ports f)
AreWithin f at.Nowhere = Unit {0}
