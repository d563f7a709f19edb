-- The same by the slices' states, in place of what each slice sees. The parts of the code are proved by this.
use Rattle.std.specs.Prelude.{ℕ, ◌≡◌, ◌&&◌, ◌+◌, ◌-◌, ◌/◌, ◌%◌, ◌^◌, ◌==◌, Bool, false, if◌then◌else◌, List, [], ◌∷◌, ◌++◌, length, take, slice_get, Option, Some, None, option_map, option_and_then, Result, Ok}
use Rattle.std.specs.List.{concat}
use Rattle.of10_model.specs.Header.{Header}
use Rattle.of10_model.specs.Normal.{is_value, bit}
use Rattle.of10_flow.specs.declared.protocol.TheConstants.{NO_BUFFER}
use Rattle.of10_flow.specs.declared.packet_in.PacketIn.{PacketIn}
use Rattle.of10_flow.specs.declared.flow_removed.FlowRemoved.{FlowRemoved}
use Rattle.of10_flow.specs.PacketIns.{spell_packet_in}
use Rattle.of10_message.specs.Heads.{xid_of}
use Rattle.of10_message.specs.declared.fault.Unread.{Unread}
use Rattle.of10_message.specs.Errors.{ErrorMessage, pair_in}
use Rattle.of10_message.specs.Queues.{QueuesMessage}
use Rattle.of10_message.specs.Switch as says
use Rattle.of10_message.specs.Switch.{SwitchMessage, read_switch, has_bad_length}
use Rattle.of10_stats.specs.declared.reply.StatsPart.{StatsPart}
use Rattle.of10_port.specs.declared.status.PortStatus.{PortStatus}
use Rattle.of10_port.specs.Ports.{port_number}
use Rattle.of10_port.specs.PortStatus.{spell_port_status}
use Rattle.flowspace.specs.declared.rules.Rule.{Rule}
use Rattle.flowspace.specs.Owners.{has_port, owner_of_match}
use Rattle.xid_map.specs.declared.asked.Issued.{Issued}
use Rattle.xid_map.specs.Requests.{RequestCall, RequestsStand, found}
use Rattle.xid_map.specs.Collections.{CollectionCall, CollectionsStand, Gathered, gathered}
use Rattle.flow_book.specs.declared.state.SliceState.{SliceState}
use Rattle.flow_book.specs.Books.{BookCall, BookStands, booking}
use Rattle.slice_words.specs.Statistics.{collects, barrier_told, queues_told, collected_replies}
use Rattle.slice_words.specs.Answers.{removal_told, error_told}
use Rattle.desk_words.specs.Openings.{status_said, kept_beside}
use Rattle.desk_words.specs.Histories.{header_in, is_part, kept_entries}
use Rattle.desk_words.specs.Sent.{echo_said}
use Rattle.switch_side.specs.declared.audience.Audience.{Audience}
use Rattle.switch_side.specs.declared.audience.Audience.TheVariants.{Prober, Named}
use Rattle.switch_side.specs.declared.change.Change.{Change}
use Rattle.switch_side.specs.declared.change.Change.TheVariants.{Released, Failed, Lost, Given, Replied, Collected, Finished}
use Rattle.switch_side.specs.declared.dispatch.Dispatch.{Dispatch}
use Rattle.switch_side.specs.Audiences.{audience_of, writes}
use Rattle.switch_side.specs.Collecting.{entry_calls}
use Rattle.switch_side.specs.Dispatches.{addressed, said_from}

-- what a dispatch carries
pub record Carried : Type 0 where
  pub messages : List (ℕ × List ℕ)
  pub replies : List (List ℕ)
  pub changes : List (ℕ × Change)
  pub status : Option PortStatus
  pub ends : Bool

abbrev pub carried : Dispatch → Carried
carried d = record { messages = d.to_slices.items; replies = d.to_switch.items; changes = d.changes.items; status = d.port; ends = d.close }

-- messages for slices, and the change of a port
abbrev pub telling : List (ℕ × List ℕ) → Option PortStatus → Carried
telling messages status = record { messages = messages; replies = []; changes = []; status = status; ends = false }

-- ---- what the states stand for

-- the calls that made one slice's requests, book and collections
pub record CallsOf : Type 0 where
  pub requests : List RequestCall
  pub book : List BookCall
  pub collections : List CollectionCall

-- each state's were made by these
abbrev pub AllCalled : (ℕ → CallsOf) → List SliceState → Type 0
AllCalled called states =
    (slot : ℕ) (state : SliceState) → slice_get states slot ≡ Some state → RequestsStand slot (called slot).requests state.xids × BookStands (called slot).book state.book × CollectionsStand (called slot).collections state.collections

-- ---- what several slices may be sent

-- a message where it is due
abbrev pub once : Bool → List ℕ → List (List ℕ)
once due message = if due then message ∷ [] else []

-- the change of a port for the slice at a slot, if it is up and has the port
abbrev pub status_for : List Rule → PortStatus → ℕ → SliceState → List (List ℕ)
status_for rules status slot state = once (state.up && has_port rules slot (port_number status.port)) (spell_port_status status 0)

-- ---- packets

-- a packet as readers are sent it: whole, without a number
abbrev pub unnumbered : PacketIn → PacketIn
unnumbered packet = record packet { xid = 0; buffer = NO_BUFFER }

-- a probe without its mark
abbrev pub unmarked : PacketIn → PacketIn
unmarked packet = record packet { xid = 0; buffer = NO_BUFFER; total_len = packet.total_len - 8; payload = take (length packet.payload - 8) packet.payload }

-- of a packet that is kept for a slice so many bytes where no entry matched it
abbrev pub wanted : ℕ → PacketIn → List ℕ
wanted count packet = if packet.reason == 0 then take count packet.payload else packet.payload

-- a packet for its writer, who wants so many bytes and was given so many packets: by number where the switch keeps it
abbrev pub written_as : ℕ → ℕ → PacketIn → PacketIn
written_as wants given packet =
    if packet.buffer == NO_BUFFER then unnumbered packet else record packet { xid = 0; buffer = given % 2 ^ 24; payload = wanted wants packet }

-- a packet as the slice of a state is sent it that may write it
abbrev pub written : SliceState → PacketIn → PacketIn
written state packet = written_as state.miss_send_len state.buffers.given packet

-- a packet for a slice that is up and that a rule names: as its writer, and as a reader
abbrev pub named_told : Bool → Bool → SliceState → PacketIn → List (List ℕ)
named_told writes reads state packet = once writes (spell_packet_in (written state packet)) ++ once reads (spell_packet_in (unnumbered packet))

-- a packet for a slice that is up
abbrev pub told_up : Audience → PacketIn → ℕ → SliceState → List (List ℕ)
told_up (Prober other) packet slot state = once (other == slot) (spell_packet_in (unmarked packet))
told_up (Named writer readers) packet slot state = named_told (is_value slot writer) (bit readers slot) state packet

-- a packet for the slice at a slot
abbrev pub packet_for : Audience → PacketIn → ℕ → SliceState → List (List ℕ)
packet_for audience packet slot state = if state.up then told_up audience packet slot state else []

-- what changes for the slice at a slot where the switch keeps the packet under a number: the writer that is up is given it, and to all others what they held under the number is lost
abbrev pub change_for : Audience → ℕ → Header → ℕ → Bool → Change
change_for audience physical header slot up = if up && writes audience slot then Given physical header else Lost physical

-- changes of each slice from a slot on
abbrev pub changes_from : (ℕ → Bool → Change) → ℕ → List SliceState → List (ℕ × Change)
changes_from change slot [] = []
changes_from change slot (state ∷ others) = (slot, change slot state.up) ∷ changes_from change (slot + 1) others

-- what changes with a packet: nothing where the switch doesn't keep it
abbrev pub changes_with : Audience → PacketIn → List SliceState → List (ℕ × Change)
changes_with audience packet states = if packet.buffer == NO_BUFFER then [] else changes_from (change_for audience packet.buffer (header_in packet)) 0 states

-- a packet that is handed up, for all slices
abbrev pub packets_for_all : List Rule → List SliceState → PacketIn → List (ℕ × List ℕ)
packets_for_all rules states packet = said_from (packet_for (audience_of (length states) rules packet) packet) 0 states

-- and what changes
abbrev pub packet_changes : List Rule → List SliceState → PacketIn → List (ℕ × Change)
packet_changes rules states packet = changes_with (audience_of (length states) rules packet) packet states

-- messages for slices, and what changes in their states
abbrev pub handing : List (ℕ × List ℕ) → List (ℕ × Change) → Carried
handing messages changes = record (telling messages None) { changes = changes }

-- the change of a port, for all slices
abbrev pub port_told : List Rule → List SliceState → Option PortStatus → List (ℕ × List ℕ)
port_told rules states None = []
port_told rules states (Some status) = said_from (status_for rules status) 0 states

-- ---- what one slice may be sent

-- what follows for one slice: messages for it, and what changes in its state
pub record Turn : Type 0 where
  pub slot : ℕ
  pub messages : List (List ℕ)
  pub change : Change

-- messages of a turn, if there is one
abbrev pub turn_told : Option Turn → List (ℕ × List ℕ)
turn_told None = []
turn_told (Some turn) = addressed turn.slot turn.messages

-- and its change
abbrev pub turn_changes : Option Turn → List (ℕ × Change)
turn_changes None = []
turn_changes (Some turn) = (turn.slot, turn.change) ∷ []

-- both
abbrev pub turning : Option Turn → Carried
turning turn = record (telling (turn_told turn) None) { changes = turn_changes turn }

-- messages for a slice that is up
abbrev pub while_up : Bool → List (List ℕ) → List (List ℕ)
while_up up messages = if up then messages else []

-- what follows for a slice of whose match an entry was removed
abbrev pub removal_turn : CallsOf → FlowRemoved → ℕ → SliceState → Turn
removal_turn called entry slot state = record {
  slot = slot;
  messages = while_up state.up (removal_told (booking entry.pattern entry.priority called.book) entry);
  change = Released entry.pattern entry.priority;
}

-- it is reported to the slice that owns the match
abbrev pub owner_turn : (ℕ → CallsOf) → List SliceState → FlowRemoved → Option ℕ → Option Turn
owner_turn called states entry None = None
owner_turn called states entry (Some slot) = option_map (removal_turn (called slot) entry slot) (slice_get states slot)

abbrev pub removed_turn : (ℕ → CallsOf) → List Rule → List SliceState → FlowRemoved → Option Turn
removed_turn called rules states entry = owner_turn called states entry (owner_of_match rules entry.pattern)

-- what follows for the slice whose request an error is for
abbrev pub failure_turn : ℕ → ErrorMessage → ℕ → SliceState → Issued → Turn
failure_turn xid error slot state request = record {
  slot = slot;
  messages = while_up state.up (error_told (Some request) error.class error.code);
  change = Failed request.number (pair_in xid error.cause);
}

-- the request is sought at one slot
abbrev pub request_turn : CallsOf → ℕ → ErrorMessage → ℕ → SliceState → Option Turn
request_turn called xid error slot state = option_map (failure_turn xid error slot state) (found slot xid called.requests)

-- at that of the transaction id's top byte
abbrev pub error_turn : (ℕ → CallsOf) → List SliceState → ℕ → ErrorMessage → Option Turn
error_turn called states xid error =
    option_and_then (λ state. request_turn (called (xid / 2 ^ 24)) xid error (xid / 2 ^ 24) state) (slice_get states (xid / 2 ^ 24))

-- ---- what the switch replies to one slice

-- the request that the switch sees under a transaction id, of the slice whose slot is the id's top byte
abbrev pub request_seen : (ℕ → CallsOf) → List SliceState → ℕ → Option Issued
request_seen called states xid = option_and_then (λ state. found (xid / 2 ^ 24) xid (called (xid / 2 ^ 24)).requests) (slice_get states (xid / 2 ^ 24))

-- what follows for a slice that is sent a reply, if it is: its request is marked
abbrev pub answer_turn : ℕ → List (List ℕ) → ℕ → Option Turn
answer_turn slot [] number = None
answer_turn slot (message ∷ others) number = Some (record { slot = slot; messages = message ∷ others; change = Replied number })

-- of a reply to a barrier
abbrev pub barrier_turn : (ℕ → CallsOf) → List SliceState → ℕ → Option Turn
barrier_turn called states xid = option_and_then (λ request. answer_turn (xid / 2 ^ 24) (barrier_told (Some request)) request.number) (request_seen called states xid)

-- of a reply on the queues of a port of the slice
abbrev pub queues_turn : (ℕ → CallsOf) → List Rule → List SliceState → ℕ → QueuesMessage → Option Turn
queues_turn called rules states xid queues =
    if has_port rules (xid / 2 ^ 24) queues.port
    then option_and_then (λ request. answer_turn (xid / 2 ^ 24) (queues_told (Some request) queues.body) request.number) (request_seen called states xid)
    else None

-- what a request has collected with these entries
abbrev pub gathered_with : CallsOf → Issued → List (List ℕ) → Gathered
gathered_with called request entries = gathered request.number (entry_calls request.asked.kind request.number entries called.collections)

-- what follows from a part for a slice whose request collects it: where more parts come the entries are collected, and with the last part the slice is sent what was collected
abbrev pub part_turn : List Rule → CallsOf → ℕ → StatsPart → List ℕ → Issued → Turn
part_turn rules called slot part body request =
    if part.more then record { slot = slot; messages = []; change = Collected request.number request.asked.kind (concat (kept_entries rules slot part.kind body)) }
    else record {
      slot = slot;
      messages = collected_replies request.asked.kind (gathered_with called request (kept_entries rules slot part.kind body)) request.asked.xid;
      change = Finished request.number;
    }

-- it follows only for a request that collects statistics of the part's type
abbrev pub collecting_turn : List Rule → CallsOf → ℕ → StatsPart → List ℕ → Issued → Option Turn
collecting_turn rules called slot part body request = if collects request part.kind called.collections then Some (part_turn rules called slot part body request) else None

-- and from no part in another form than its type has
abbrev pub statistics_turn : (ℕ → CallsOf) → List Rule → List SliceState → ℕ → StatsPart → List ℕ → Option Turn
statistics_turn called rules states xid part body =
    if is_part part.kind body
    then option_and_then (collecting_turn rules (called (xid / 2 ^ 24)) (xid / 2 ^ 24) part body) (request_seen called states xid)
    else None

-- ---- all, by what was read of a message

-- messages for one slice at most: of an entry that was removed, an error, or a reply
abbrev pub turn_for : (ℕ → CallsOf) → List Rule → List SliceState → ℕ → Result SwitchMessage Unread → Option Turn
turn_for called rules states xid (Ok (says.FlowRemoved entry)) = removed_turn called rules states entry
turn_for called rules states xid (Ok (says.Error error)) = error_turn called states xid error
turn_for called rules states xid (Ok says.BarrierReply) = barrier_turn called states xid
turn_for called rules states xid (Ok (says.QueueGetConfigReply queues)) = queues_turn called rules states xid queues
turn_for called rules states xid (Ok (says.StatsReply part body)) = statistics_turn called rules states xid part body
turn_for called rules states xid said = None

-- messages for all slices: of a packet, or of a port; or for one
abbrev pub message_told : (ℕ → CallsOf) → List Rule → List (List ℕ) → List SliceState → ℕ → Result SwitchMessage Unread → List (ℕ × List ℕ)
message_told called rules known states xid (Ok (says.PacketIn packet)) = packets_for_all rules states packet
message_told called rules known states xid (Ok (says.PortStatus status)) = port_told rules states (kept_beside known (Some status))
message_told called rules known states xid said = turn_told (turn_for called rules states xid said)

-- what changes
abbrev pub message_changes : (ℕ → CallsOf) → List Rule → List SliceState → ℕ → Result SwitchMessage Unread → List (ℕ × Change)
message_changes called rules states xid (Ok (says.PacketIn packet)) = packet_changes rules states packet
message_changes called rules states xid said = turn_changes (turn_for called rules states xid said)

-- a message that hands up no packet
abbrev pub IsOther : SwitchMessage → Type 0
IsOther (says.PacketIn packet) = ⊥
IsOther said = Unit {0}

-- all that follows
abbrev pub carried_with : (ℕ → CallsOf) → List Rule → List (List ℕ) → List SliceState → ℕ → Result SwitchMessage Unread → Carried
carried_with called rules known states xid said = record {
  messages = message_told called rules known states xid said;
  replies = echo_said xid said;
  changes = message_changes called rules states xid said;
  status = kept_beside known (status_said said);
  ends = has_bad_length said;
}

-- from a message
abbrev pub carried_for : (ℕ → CallsOf) → List Rule → List (List ℕ) → List SliceState → List ℕ → Carried
carried_for called rules known states message = carried_with called rules known states (xid_of message) (read_switch message)
