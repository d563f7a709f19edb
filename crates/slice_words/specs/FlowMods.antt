-- What follows from a flow-mod of a slice (OpenFlow 1.0.0, section 5.3.3). Which lines refuse it, and in which order, is this proxy's own rule.
use Rattle.std.specs.Prelude.{ℕ, ◌+◌, ◌==◌, ◌&&◌, ◌||◌, not, nat_lt, Bool, true, false, if◌then◌else◌, List, [], ◌∷◌, map, length, position, Option, Some, None, option_map, Result, Ok, Err}
use Rattle.std.specs.List.{list_any}
use Rattle.of10_model.specs.declared.pattern.Pattern.{Pattern}
use Rattle.of10_model.specs.Header.{Header}
use Rattle.of10_model.specs.Pattern.{has}
use Rattle.of10_action.specs.declared.action.Action.{Action}
use Rattle.of10_action.specs.Actions.{spelling}
use Rattle.of10_action.specs.Reading.{list_given}
use Rattle.of10_flow.specs.declared.protocol.TheConstants.{NO_BUFFER, ADD, DELETE_STRICT, CHECK_OVERLAP, EMERG}
use Rattle.of10_flow.specs.declared.flow_mod.FlowMod.{FlowMod}
use Rattle.of10_flow.specs.FlowMods.{spell_flow_mod}
use Rattle.of10_flow.specs.Tables.{is_delete, has_flag}
use Rattle.flowspace.specs.Options.{when, first_some}
use Rattle.action_check.specs.declared.origin.Origin.TheVariants.{Piece}
use Rattle.action_check.specs.Permitted.{permitted}
use Rattle.flowmod_expand.specs.Messages.{piece_messages, are_too_large}
use Rattle.flowmod_expand.specs.Pieces.{pieces_within}
use Rattle.flow_book.specs.declared.booked.Booked.{Booked}
use Rattle.flow_book.specs.Books.{book, overlaps_in, fits_in}
use Rattle.port_view.specs.SlicePorts.{flooded}
use Rattle.xid_map.specs.Requests.{issued, physical_of}
use Rattle.slice_words.specs.Items.{Settings, Item, lone_rules, known_ports}
use Rattle.slice_words.specs.Pasts.{Outgoing, Modifies, Past}
use Rattle.slice_words.specs.Buffers.{HeldPacket, held_packets, packet_under}
use Rattle.slice_words.specs.Calls.{request_calls, book_calls}

-- ---- what flow-mods and packet-outs are answered by

-- the slice's slot, the matches of the rules that it writes, the ports that it knows, the packets that it holds, what it has booked, how much it may book, and the transaction id that its next request gets
pub record Ground : Type 0 where
  pub slot : ℕ
  pub patterns : List Pattern
  pub ports : List (List ℕ)
  pub held : List HeldPacket
  pub booked : List Booked
  pub quota : ℕ
  pub xid : ℕ

-- these of a slice after a view with its answers
abbrev pub ground_of : Settings → List Item → List Past → Ground
ground_of s view past = record {
  slot = s.slot;
  patterns = s.patterns;
  ports = known_ports view;
  held = held_packets past;
  booked = book (book_calls s past);
  quota = s.quota;
  xid = physical_of s.slot (issued (request_calls s past));
}

-- what the slice may write of the match, piece by piece
abbrev pub pieces_on : Ground → FlowMod → List Pattern
pieces_on g m = pieces_within g.patterns m.pattern

-- ---- actions

-- the action list that the slice may have for a piece, where FLOOD and ALL stand for its known ports; or the code of the first action that is forbidden
abbrev pub permitted_on : Ground → FlowMod → Pattern → Result (List Action) ℕ
permitted_on g m piece = permitted (lone_rules g.slot g.patterns) g.slot (Piece piece) m.actions (flooded false g.ports) (flooded true g.ports)

-- the code of a refusal
abbrev pub code_given : {A : Type 0} → Result A ℕ → Option ℕ
code_given (Ok x) = None
code_given (Err code) = Some code

-- the first code among those of the pieces
abbrev pub first_refusal : {A : Type 0} → List (Result A ℕ) → Option ℕ
first_refusal results = first_some (map code_given results)

-- the code of the first action that is forbidden, by piece and then by action; a delete's actions are disregarded
abbrev pub first_forbidden : Ground → FlowMod → Option ℕ
first_forbidden g m = if is_delete m then None else first_refusal (map (permitted_on g m) (pieces_on g m))

-- the action list of each piece; a delete has none
abbrev pub lists_on : Ground → FlowMod → List (List Action)
lists_on g m = map (λ piece. if is_delete m then [] else list_given (permitted_on g m piece)) (pieces_on g m)

-- ---- packets

-- the packet that the slice holds under a number, where a message has one
abbrev pub packet_at : Ground → ℕ → Option HeldPacket
packet_at g buffer = if buffer == NO_BUFFER then None else packet_under buffer g.held

-- the packet that a flow-mod names; a delete's number is disregarded
abbrev pub named_packet : Ground → FlowMod → Option HeldPacket
named_packet g m = if is_delete m then None else packet_at g m.buffer

-- ---- what is sent on

-- the flow-mods that are sent for the pieces, under the transaction id that the slice gets next, where the one for the piece at a place carries a number, if one does
abbrev pub flow_mods_with : Ground → FlowMod → Option (ℕ × ℕ) → List FlowMod
flow_mods_with g m carrier = piece_messages 0 m g.xid (pieces_on g m) (lists_on g m) carrier

-- the same before a number is put into one
abbrev pub flow_mods_on : Ground → FlowMod → List FlowMod
flow_mods_on g m = flow_mods_with g m None

-- the place of the first piece that has a packet's header
abbrev pub piece_place : Header → List Pattern → Option ℕ
piece_place header pieces = position (λ piece. has piece header) pieces

-- flow-mods for the switch, counted from a place on: the one at a place names a packet, the others none
abbrev pub naming : Option (ℕ × ℕ) → ℕ → List FlowMod → List Outgoing
naming carrier place [] = []
naming carrier place (m ∷ others) = Modifies m (elim carrier [ None ↦ None | Some own ↦ if own.0 == place then Some own.1 else None ]) ∷ naming carrier (place + 1) others

-- the place of the first piece that has the header of the packet that is named, and the packet
abbrev pub carrier_of : Option HeldPacket → List Pattern → Option (ℕ × ℕ)
carrier_of None pieces = None
carrier_of (Some packet) pieces = option_map (λ place. (place, packet.ordinal)) (piece_place packet.header pieces)

-- the flow-mods for the switch: that of the first piece which has the packet's header names the packet
abbrev pub sent_on : Ground → FlowMod → List Outgoing
sent_on g m = naming (carrier_of (named_packet g m) (pieces_on g m)) 0 (flow_mods_on g m)

-- ---- refusals (section 5.4.4): class and code

-- BAD_REQUEST, BUFFER_UNKNOWN
abbrev pub unknown_buffer : ℕ × ℕ
unknown_buffer = (1, 8)

-- BAD_REQUEST, EPERM
abbrev pub not_permitted : ℕ × ℕ
not_permitted = (1, 5)

-- BAD_ACTION with a code
abbrev pub bad_action : ℕ → ℕ × ℕ
bad_action code = (2, code)

-- BAD_ACTION, TOO_MANY
abbrev pub too_many_actions : ℕ × ℕ
too_many_actions = (2, 7)

-- FLOW_MOD_FAILED, ALL_TABLES_FULL
abbrev pub tables_full : ℕ × ℕ
tables_full = (3, 0)

-- FLOW_MOD_FAILED, OVERLAP
abbrev pub overlap : ℕ × ℕ
overlap = (3, 1)

-- FLOW_MOD_FAILED, EPERM
abbrev pub entry_not_permitted : ℕ × ℕ
entry_not_permitted = (3, 2)

-- FLOW_MOD_FAILED, BAD_COMMAND
abbrev pub bad_command : ℕ × ℕ
bad_command = (3, 4)

-- ---- the lines that refuse

-- there are five commands (section 5.3.3)
abbrev pub wrong_command : FlowMod → Option (ℕ × ℕ)
wrong_command m = when (nat_lt DELETE_STRICT m.command) bad_command

-- emergency entries are left out
abbrev pub emergency : FlowMod → Option (ℕ × ℕ)
emergency m = when (has_flag EMERG m) entry_not_permitted

-- a packet is there, and a match has its header
abbrev pub is_packet_in : Pattern → Option HeldPacket → Bool
is_packet_in m None = false
is_packet_in m (Some packet) = has m packet.header

-- a flow-mod that names this packet, or none that is held, names one that isn't held or whose header isn't in its match; a delete's number is disregarded
abbrev pub is_not_held : Option HeldPacket → FlowMod → Bool
is_not_held named m = not (is_delete m) && not (m.buffer == NO_BUFFER) && not (is_packet_in m.pattern named)

-- so it is of the packet that the slice holds under its number
abbrev pub buffer_not_held : Ground → FlowMod → Option (ℕ × ℕ)
buffer_not_held g m = when (is_not_held (named_packet g m) m) unknown_buffer

-- the slice may write nothing of the match; a delete then deletes nothing
abbrev pub outside_flowspace : Ground → FlowMod → Option (ℕ × ℕ)
outside_flowspace g m = when (not (is_delete m) && length (pieces_on g m) == 0) entry_not_permitted

-- an action is forbidden
abbrev pub forbidden_action : Ground → FlowMod → Option (ℕ × ℕ)
forbidden_action g m = option_map bad_action (first_forbidden g m)

-- a list has more bytes than a flow-mod has beside its fields
abbrev pub is_too_long : List Action → Bool
is_too_long actions = nat_lt 65463 (length (spelling actions))

-- a piece's list is too long, or the messages are too large
abbrev pub too_large : Ground → FlowMod → Option (ℕ × ℕ)
too_large g m = when (list_any is_too_long (lists_on g m) || are_too_large (map spell_flow_mod (flow_mods_on g m))) too_many_actions

-- an ADD that asks for it shares a header with a booked match of its priority
abbrev pub overlapping : Ground → FlowMod → Option (ℕ × ℕ)
overlapping g m = when (m.command == ADD && has_flag CHECK_OVERLAP m && overlaps_in (pieces_on g m) m.priority g.booked) overlap

-- more would be booked than the slice's quota
abbrev pub over_quota : Ground → FlowMod → Option (ℕ × ℕ)
over_quota g m = when (not (fits_in m.command (pieces_on g m) m.priority g.quota g.booked)) tables_full

-- the class and code of the first line that applies
unfoldable pub flow_mod_fault : Ground → FlowMod → Option (ℕ × ℕ)
flow_mod_fault g m =
    first_some
    (wrong_command m
    ∷ emergency m
    ∷ buffer_not_held g m
    ∷ outside_flowspace g m
    ∷ forbidden_action g m
    ∷ too_large g m
    ∷ overlapping g m
    ∷ over_quota g m
    ∷ [])
