-- What a slice sees of a history: its view, which is a filter of the history (this proxy's own rule). An event of another slice shows it nothing.
use Rattle.std.specs.Prelude.{ℕ, ◌/◌, ◌%◌, ◌^◌, ◌==◌, ◌&&◌, ◌||◌, not, ltb, Bool, true, false, if◌then◌else◌, List, [], ◌∷◌, ◌++◌, length, map, filter, find, slice_get, Option, Some, None, is_some, option_and_then, Result, Ok, Err}
use Rattle.of10_model.specs.Header.{Header}
use Rattle.std.specs.List.{list_any}
use Rattle.of10_model.specs.Normal.{is_value, bit}
use Rattle.of10_model.specs.Inclusion.{includes_of}
use Rattle.of10_flow.specs.declared.protocol.TheConstants.{NO_BUFFER}
use Rattle.of10_flow.specs.declared.packet_in.PacketIn.{PacketIn}
use Rattle.of10_flow.specs.declared.flow_removed.FlowRemoved.{FlowRemoved}
use Rattle.of10_message.specs.Heads.{xid_of}
use Rattle.of10_message.specs.declared.fault.Unread.{Unread}
use Rattle.of10_message.specs.declared.fault.Unread.TheVariants.{BadLength}
use Rattle.of10_message.specs.Errors.{ErrorMessage, pair_in}
use Rattle.of10_message.specs.Queues.{QueuesMessage}
use Rattle.of10_message.specs.Switch as says
use Rattle.of10_message.specs.Switch.{SwitchMessage, read_switch}
use Rattle.of10_stats.specs.declared.protocol.TheConstants as statistics
use Rattle.of10_stats.specs.declared.reply.StatsPart.{StatsPart}
use Rattle.of10_port.specs.declared.features.Features.{Features}
use Rattle.of10_port.specs.declared.status.PortStatus.{PortStatus}
use Rattle.of10_port.specs.Ports.{port_number}
use Rattle.frame_header.specs.Headers.{header_of_packet}
use Rattle.frame_header.specs.Probes.{probe_slot_of}
use Rattle.flowspace.specs.declared.rules.Rule.{Rule}
use Rattle.flowspace.specs.Order.{writer_of, readers_of}
use Rattle.flowspace.specs.Policies.{PolicyView}
use Rattle.port_view.specs.KnownPorts.{first_known, is_kept}
use Rattle.port_view.specs.SlicePorts.{ports_of_slice}
use Rattle.stats_filter.specs.Keeping.{entries_in, is_own_entry}
use Rattle.slice_words.specs.Items.{Settings, settings_of, own_rules, is_own_port, Share, Writer, Reader, Probe, Item, Up, Down, Msg, Lost, Handed, Removed, Status, Fault, Barrier, Queues, Entry, Last, End, Sight, is_up, hands_up_buffered, buffered_count}
use Rattle.slice_words.specs.Items as items
use Rattle.slice_words.specs.Alone.{with_items}
use Rattle.desk_words.specs.declared.event.Event.{Event}
use Rattle.desk_words.specs.declared.event.Event.TheVariants.{SwitchUp, SwitchMsg, SwitchDown, SliceUp, SliceMsg, SliceDown}
use Rattle.desk_words.specs.declared.event.Timed.{Timed}
use Rattle.desk_words.specs.declared.phase.Phase.{Phase}
use Rattle.desk_words.specs.declared.phase.Phase.TheVariants.{Fresh, Begun, Opened, Gone}
use Rattle.desk_words.specs.Openings.{opening_with, rules_of, swaps_of, KnownSwitch, switch_of, phase_of}

-- ---- slices of a policy

-- a policy has a slice at a slot
abbrev pub is_slot : PolicyView → ℕ → Bool
is_slot policy slot = ltb slot (length policy.slices)

-- the settings of the slice at a slot on a switch that said this of itself
abbrev pub settings_at : PolicyView → ℕ → Option Features → Settings
settings_at policy slot told =
    elim (slice_get policy.slices slot) [
      | None ↦ record { slot = slot; rate = 0; burst = 0; quota = 0; patterns = []; swaps = [] }
      | Some slice ↦ settings_of slice slot (rules_of policy told) (swaps_of policy told)
    ]

-- ---- what a slice sees

-- a packet-in to which the switch gave a number, and how many buffered packets the slice was given before it, if it was one of the slice's
pub record Numbered : Type 0 where
  pub number : ℕ
  pub ordinal : Option ℕ

-- what a slice sees, and beside it all packet-ins with numbers since the opening, newest first. These show when a number of one of the slice's packets is used again
pub record SliceSide : Type 0 where
  pub sight : Sight
  pub numbered : List Numbered

-- what a slice sees before anything came
abbrev pub side_start : SliceSide
side_start = record { sight = record { view = []; came = [] }; numbered = [] }

-- ---- what one event shows a slice

-- of the known ports the slice's own
abbrev pub own_ports : Settings → List (List ℕ) → List (List ℕ)
own_ports s known = ports_of_slice (own_rules s) s.slot known

-- the features that a slice sees: the slice's own of the known ports; how many tables there are it doesn't see
abbrev pub own_features : Settings → Features → Features
own_features s features = record features { tables = 1; ports = own_ports s (first_known features.ports) }

-- a packet-in for the slice, with what share and as it stands
abbrev pub handed : Share → PacketIn → Item
handed share packet =
    Handed (record { share = share; total_len = packet.total_len; in_port = packet.in_port; reason = packet.reason; payload = packet.payload })

-- the packet once for each of these shares
abbrev pub handed_by : List Share → PacketIn → List Item
handed_by shares packet = map (λ share. handed share packet) shares

-- the header of a packet that came in at a port
abbrev pub header_in : PacketIn → Header
header_in packet = header_of_packet packet.in_port packet.payload

-- what a message that was read says of a packet, where it hands one up (section 5.4.1)
abbrev pub packet_said : Result SwitchMessage Unread → Option PacketIn
packet_said (Ok (says.PacketIn packet)) = Some packet
packet_said said = None

-- what a message says of a packet
abbrev pub packet_in_read : List ℕ → Option PacketIn
packet_in_read message = packet_said (read_switch message)

-- the number by which the switch keeps a packet that it hands up, if it keeps it (section 5.4.1)
abbrev pub number_given : PacketIn → Option ℕ
number_given packet = if packet.buffer == NO_BUFFER then None else Some packet.buffer

-- the slot whose mark a packet's bytes bear, where it is one of so many slices
abbrev pub marked_slot : ℕ → List ℕ → Option ℕ
marked_slot count bytes = elim (probe_slot_of bytes) [ None ↦ None | Some slot ↦ if ltb slot count then Some slot else None ]

-- the shares of the slice at a slot in a packet that one slice may write, if one may, and that these read. The writer may use by number what the switch keeps
abbrev pub shares_named : Option ℕ → ℕ → ℕ → PacketIn → List Share
shares_named writer readers slot packet =
    (if is_value slot writer then Writer (is_some (number_given packet)) ∷ [] else [])
    ++ (if bit readers slot then Reader ∷ [] else [])

-- the first rule that has the packet's header says who may write it, and who reads it
abbrev pub shares_by : List Rule → ℕ → PacketIn → List Share
shares_by rules slot packet = shares_named (writer_of rules (header_in packet)) (readers_of rules (header_in packet)) slot packet

-- the share in a probe of the slice at a slot, which is that of one slice alone
abbrev pub shares_probed : ℕ → ℕ → List Share
shares_probed prober slot = if prober == slot then Probe ∷ [] else []

-- a packet that bears the mark of a slot of the policy is a probe of that slice alone
abbrev pub shares_of : PolicyView → List Rule → ℕ → PacketIn → List Share
shares_of policy rules slot packet = elim (marked_slot (length policy.slices) packet.payload) [ None ↦ shares_by rules slot packet | Some other ↦ shares_probed other slot ]

-- a packet-in shows the slice its packet once for each of its shares, where it is up
abbrev pub packet_items : PolicyView → List Rule → ℕ → List Item → PacketIn → List Item
packet_items policy rules slot view packet = if is_up view then handed_by (shares_of policy rules slot packet) packet else []

-- the packet of the slice that came last under a number, by how many the slice was given before it; none where another's packet came under it since
abbrev pub holder : ℕ → List Numbered → Option ℕ
holder number numbered = option_and_then (λ n. n.ordinal) (find (λ n. n.number == number) numbered)

-- the packet before which the slice was given so many is lost, if one is
abbrev pub lost_one : Option ℕ → List Item
lost_one lost = elim lost [ None ↦ [] | Some k ↦ Lost k ∷ [] ]

-- a packet whose number comes again is lost
abbrev pub lost_items : List Numbered → PacketIn → List Item
lost_items numbered packet = lost_one (option_and_then (λ number. holder number numbered) (number_given packet))

-- first what is lost, then the packet
abbrev pub packet_in_items : PolicyView → List Rule → ℕ → SliceSide → PacketIn → List Item
packet_in_items policy rules slot side packet = lost_items side.numbered packet ++ packet_items policy rules slot side.sight.view packet

-- a change that is kept is shown to the slices that have the port
abbrev pub status_items : Settings → List (List ℕ) → PortStatus → List Item
status_items s known status = if is_kept status known && is_own_port s.slot s.patterns (port_number status.port) then Status status ∷ [] else []

-- a removed entry is shown to a slice of which one write rule has all of its match
abbrev pub removed_items : Settings → FlowRemoved → List Item
removed_items s entry = if list_any (λ pattern. includes_of pattern entry.pattern) s.patterns then Removed (record entry { xid = 0 }) ∷ [] else []

-- what the switch replies under a transaction id is for the slice whose slot is the id's top byte
abbrev pub is_reply_to : Settings → ℕ → Bool
is_reply_to s xid = xid / 2 ^ 24 == s.slot

-- an error is shown to that slice, with the match and priority of the flow-mod that it carries, if it carries one under that id
abbrev pub error_items : Settings → ℕ → ErrorMessage → List Item
error_items s xid error = if is_reply_to s xid then Fault (xid % 2 ^ 24) error.class error.code (pair_in xid error.cause) ∷ [] else []

-- a reply to a barrier
abbrev pub barrier_items : Settings → ℕ → List Item
barrier_items s xid = if is_reply_to s xid then Barrier (xid % 2 ^ 24) ∷ [] else []

-- what the switch says of the queues of a port of the slice
abbrev pub queues_items : Settings → ℕ → QueuesMessage → List Item
queues_items s xid queues = if is_reply_to s xid && is_own_port s.slot s.patterns queues.port then Queues (xid % 2 ^ 24) queues.body ∷ [] else []

-- the types of statistics that the switch is asked for: what it is, flows, ports and queues
abbrev pub is_type_asked : ℕ → Bool
is_type_asked kind = kind == statistics.DESC || kind == statistics.FLOW || kind == statistics.PORT || kind == statistics.QUEUE

-- of a part of statistics the entries of the slice at a slot by these rules, up to the first that isn't well formed
abbrev pub kept_entries : List Rule → ℕ → ℕ → List ℕ → List (List ℕ)
kept_entries rules slot kind body = filter (is_own_entry rules slot kind) (entries_in kind body)

-- of a part of statistics the slice's own entries
abbrev pub own_entries : Settings → ℕ → List ℕ → List (List ℕ)
own_entries s kind body = kept_entries (own_rules s) s.slot kind body

-- what the switch is is said whole in one entry, and in no other form; other statistics come in any number of entries
abbrev pub is_part : ℕ → List ℕ → Bool
is_part kind body = is_type_asked kind && (not (kind == statistics.DESC) || length body == 1056)

-- its own entries, and the end of the reply where no more parts follow
abbrev pub part_items : Settings → ℕ → StatsPart → List ℕ → List Item
part_items s x part body = map (Entry x part.kind) (own_entries s part.kind body) ++ (if part.more then [] else Last x part.kind ∷ [])

-- a part of statistics
abbrev pub statistics_items : Settings → ℕ → StatsPart → List ℕ → List Item
statistics_items s xid part body = if is_reply_to s xid && is_part part.kind body then part_items s (xid % 2 ^ 24) part body else []

-- a message under a transaction id, by what was read of it: one of a bad length ends the switch's connection (this proxy's own rule), and what can't be read otherwise, or says nothing to a slice, shows nothing
abbrev pub said_items : PolicyView → ℕ → KnownSwitch → SliceSide → ℕ → Result SwitchMessage Unread → List Item
said_items policy slot switch side xid (Err BadLength) = End ∷ []
said_items policy slot switch side xid (Ok (says.PacketIn packet)) = packet_in_items policy (rules_of policy switch.features) slot side packet
said_items policy slot switch side xid (Ok (says.FlowRemoved entry)) = removed_items (settings_at policy slot switch.features) entry
said_items policy slot switch side xid (Ok (says.PortStatus status)) = status_items (settings_at policy slot switch.features) switch.known status
said_items policy slot switch side xid (Ok (says.Error error)) = error_items (settings_at policy slot switch.features) xid error
said_items policy slot switch side xid (Ok says.BarrierReply) = barrier_items (settings_at policy slot switch.features) xid
said_items policy slot switch side xid (Ok (says.QueueGetConfigReply queues)) = queues_items (settings_at policy slot switch.features) xid queues
said_items policy slot switch side xid (Ok (says.StatsReply part body)) = statistics_items (settings_at policy slot switch.features) xid part body
said_items policy slot switch side xid said = []

-- a message of the switch, which came after the switch had said what it is
unfoldable pub message_items : PolicyView → ℕ → KnownSwitch → SliceSide → List ℕ → List Item
message_items policy slot switch side message = said_items policy slot switch side (xid_of message) (read_switch message)

-- the opening shows the slice the features of the switch
abbrev pub opening_items : PolicyView → ℕ → Option Features → List Item
opening_items policy slot None = []
opening_items policy slot (Some features) = items.Opened (own_features (settings_at policy slot (Some features)) features) ∷ []

-- an event after the opening shows a slice what concerns it: its own connection and messages, while it is up, and what the switch says of it
abbrev pub event_items : PolicyView → ℕ → KnownSwitch → SliceSide → ℕ → Event → List Item
event_items policy slot switch side moment SwitchUp = []
event_items policy slot switch side moment (SwitchMsg message) = message_items policy slot switch side message
event_items policy slot switch side moment SwitchDown = End ∷ []
event_items policy slot switch side moment (SliceUp other) = if other == slot then Up ∷ [] else []
event_items policy slot switch side moment (SliceMsg other message) = if other == slot && is_up side.sight.view then Msg message moment ∷ [] else []
event_items policy slot switch side moment (SliceDown other) = if other == slot then Down ∷ [] else []

-- the opening is the first event that shows anything, and the end the last
abbrev pub phase_items : PolicyView → ℕ → KnownSwitch → SliceSide → Timed → Phase → List Item
phase_items policy slot switch side timed Fresh = []
phase_items policy slot switch side timed Begun = opening_items policy slot (opening_with Begun timed.event)
phase_items policy slot switch side timed Opened = event_items policy slot switch side timed.moment timed.event
phase_items policy slot switch side timed Gone = []

-- what an event shows the slice at a slot of the policy, after what is known of the switch and what the slice sees, the oldest first
abbrev pub items_of : PolicyView → ℕ → KnownSwitch → SliceSide → Timed → List Item
items_of policy slot switch side timed = if is_slot policy slot then phase_items policy slot switch side timed switch.phase else []

-- ---- what a history shows a slice

-- the packet that an event hands up, once the switch has said what it is
abbrev pub packet_handed : Phase → Event → Option PacketIn
packet_handed Opened (SwitchMsg message) = packet_in_read message
packet_handed phase event = None

-- the number of that packet
abbrev pub number_told : Phase → Event → Option ℕ
number_told phase event = option_and_then number_given (packet_handed phase event)

-- one of these hands up a packet that the slice may use by number
abbrev pub is_any_given : List Item → Bool
is_any_given items = list_any hands_up_buffered items

-- the numbers of a slice's packets with these items, one of which came under a number, if one is given here
abbrev pub came_with : Option ℕ → List Item → List ℕ → List ℕ
came_with None items came = came
came_with (Some number) items came = if is_any_given items then number ∷ came else came

-- a packet-in with a number, which gave the slice a packet or not, after such a view, if one is given here
abbrev pub numbered_with : Option ℕ → List Item → List Item → List Numbered → List Numbered
numbered_with None items view numbered = numbered
numbered_with (Some number) items view numbered = record { number = number; ordinal = if is_any_given items then Some (buffered_count view) else None } ∷ numbered

-- what a slice sees with these items, where a packet that is given by number came under this one
abbrev pub seen_with : Option ℕ → List Item → Sight → Sight
seen_with number items sight = record { view = with_items items sight.view; came = came_with number items sight.came }

-- the same, and the numbers beside it, with these items of an event in a phase
abbrev pub with_shown : Phase → Timed → List Item → SliceSide → SliceSide
with_shown phase timed items side = record {
  sight = seen_with (number_told phase timed.event) items side.sight;
  numbered = numbered_with (number_told phase timed.event) items side.sight.view side.numbered;
}

-- the same with all that an event shows the slice at a slot
abbrev pub side_after : PolicyView → ℕ → KnownSwitch → SliceSide → Timed → SliceSide
side_after policy slot switch side timed = with_shown switch.phase timed (items_of policy slot switch side timed) side

-- what a history shows the slice at a slot: each event its items, after what the events before it showed
abbrev pub side_of : PolicyView → ℕ → List Timed → SliceSide
side_of policy slot [] = side_start
side_of policy slot (timed ∷ h) = side_after policy slot (switch_of h) (side_of policy slot h) timed

-- the view of the slice at a slot after a history
abbrev pub view_of : PolicyView → ℕ → List Timed → List Item
view_of policy slot h = (side_of policy slot h).sight.view

-- a phase in which slices can be up
abbrev pub is_open : Phase → Bool
is_open Opened = true
is_open phase = false

-- a slice with a view is up in a phase: the switch has said what it is and hasn't ended, and the slice's connection began and hasn't ended
abbrev pub is_up_in : Phase → List Item → Bool
is_up_in phase view = is_open phase && is_up view

-- the slice at a slot is up after a history
abbrev pub is_slice_up : PolicyView → ℕ → List Timed → Bool
is_slice_up policy slot h = is_up_in (phase_of h) (view_of policy slot h)
