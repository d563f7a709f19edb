-- What one event shows a slice: at most two items, each with a small answer, or statistics.
use Rattle.std.proofs.Common.{ℕ, ◌+◌, ◌==◌, ◌&&◌, ◌≤◌, ◌%◌, ◌^◌, ltb, Bool, true, false, if◌then◌else◌, inl, inr, List, [], ◌∷◌, ◌++◌, map, filter, length, refl, ap, ◌≡◌, Option, Some, None, is_some, sym, ◌∙◌, true≢false, arith, drop, Result, Ok, Err, IfOk}
use Rattle.std.specs.Prelude.{option_and_then}
use Rattle.std.specs.List.{All, list_any}
use Rattle.std.proofs.lemmas.Bool.{cases_Bool, ltb-false}
use Rattle.std.proofs.lemmas.List.{length-map, length-drop}
use Rattle.std.proofs.lemmas.List.Elements.{All-nil, All-cons, All-head, All-tail}
use Rattle.of10_model.specs.Normal.{is_value, bit}
use Rattle.of10_flow.specs.declared.packet_in.PacketIn.{PacketIn}
use Rattle.of10_flow.specs.PacketIns.{read_packet_in}
use Rattle.of10_flow.specs.declared.flow_removed.FlowRemoved.{FlowRemoved}
use Rattle.of10_message.specs.Heads.{xid_of}
use Rattle.of10_message.specs.declared.fault.Unread.{Unread}
use Rattle.of10_message.specs.declared.fault.Unread.TheVariants.{BadLength}
use Rattle.of10_message.specs.Errors.{ErrorMessage, pair_in}
use Rattle.of10_message.specs.Queues.{QueuesMessage, read_queues}
use Rattle.of10_message.specs.Switch as says
use Rattle.of10_message.specs.Switch.{SwitchMessage, read_switch}
use Rattle.of10_message.proofs.SwitchCases.{of_switch}
use Rattle.of10_stats.specs.declared.reply.StatsPart.{StatsPart}
use Rattle.of10_port.specs.PortStatus.{read_port_status}
use Rattle.of10_stats.specs.Replies.{part_of}
use Rattle.of10_model.specs.Inclusion.{includes_of}
use Rattle.of10_port.specs.declared.features.Features.{Features}
use Rattle.of10_port.specs.declared.status.PortStatus.{PortStatus}
use Rattle.of10_port.specs.Ports.{port_number}
use Rattle.flowspace.specs.declared.rules.Rule.{Rule}
use Rattle.stats_filter.specs.Replies.{page_size}
use Rattle.flowspace.specs.Order.{writer_of, readers_of}
use Rattle.flowspace.specs.Policies.{PolicyView}
use Rattle.slice_words.specs.Items.{Settings, is_own_port, Share, Writer, Reader, Probe, Item, Up, Down, Msg, Lost, Removed, Status, Fault, Barrier, Queues, End, is_up}
use Rattle.slice_words.specs.Items as items
use Rattle.slice_words.specs.Alone.{with_items, sent_for}
use Rattle.slice_words.proofs.Collecting.{IsWholeEntry}
use Rattle.of10_model.proofs.Results.{either}
use Rattle.desk_words.specs.declared.event.Event.{Event}
use Rattle.desk_words.specs.declared.event.Event.TheVariants.{SwitchUp, SwitchMsg, SwitchDown, SliceUp, SliceMsg, SliceDown}
use Rattle.desk_words.specs.declared.event.Timed.{Timed}
use Rattle.desk_words.specs.declared.phase.Phase.{Phase}
use Rattle.desk_words.specs.declared.phase.Phase.TheVariants.{Fresh, Begun, Opened, Gone}
use Rattle.desk_words.specs.Openings.{opening_with, rules_of, KnownSwitch, switch_of, phase_of, opening_of}
use Rattle.desk_words.specs.Histories.{is_slot, settings_at, own_features, handed, header_in, number_given, marked_slot, shares_of, holder, packet_items, packet_in_items, SliceSide, status_items, removed_items, is_reply_to, error_items, barrier_items, queues_items, said_items, message_items, opening_items, event_items, phase_items, items_of, side_of, view_of}
use Rattle.port_view.specs.KnownPorts.{is_kept}
use Rattle.answer_bounds.specs.Bounds.{IsFramed, AreFramed, AreFew, AreSmall, is_statistics, tells_statistics}
use Rattle.answer_bounds.proofs.Messages.{IsShort, few-more, small-few}
use Rattle.answer_bounds.proofs.AnswerSizes.{HasFewPorts, IsBounded, AreBounded, speaks, speaking, sent_size}
use Rattle.answer_bounds.proofs.Statistics.{AreReplied, part_body, statistics_replied}
use Rattle.answer_bounds.proofs.Ports.{IsWhole, read_status, if_read, few_ports}

-- ---- few items

pub record AreFewItems (view shown : List Item) : Type 0 where
  pub few : speaking shown ≤ 2
  pub bounded : AreBounded view shown
  pub whole : All IsWholeEntry shown

no_items : (view : List Item) → AreFewItems view []
no_items view = record { few = omega arith; bounded = tt; whole = All-nil IsWholeEntry }

one_item : (view : List Item) (item : Item) → IsBounded view item → IsWholeEntry item → AreFewItems view (item ∷ [])
one_item view item bounded whole = record {
  few = either (λ (l : List Item). length l ≤ 2) (speaks item) (item ∷ []) [] (omega arith) (omega arith);
  bounded = (bounded, tt);
  whole = All-cons IsWholeEntry item [] whole (All-nil IsWholeEntry);
}

items_if : (view : List Item) (b : Bool) (shown : List Item) → AreFewItems view shown → AreFewItems view (if b then shown else [])
items_if view b shown h = either (AreFewItems view) b shown [] h (no_items view)

-- ---- packets

-- a packet-in fits a message
abbrev IsShortPacket : PacketIn → Type 0
IsShortPacket packet = 18 + length packet.payload ≤ 65535

packet_short : (message : List ℕ) → IsShort message → IfOk (read_packet_in message) IsShortPacket
unfolding read_packet_in
packet_short message short = elim (cases_Bool (ltb (length message) 18)) [
  | inl is ↦ rw is tt
  | inr isnt ↦ (let long = ltb-false (length message) 18 isnt in let rest = length-drop 18 message in rw isnt (omega arith))
]

bounded_handed : (view : List Item) (packet : PacketIn) (shares : List Share) → IsShortPacket packet → AreBounded view (map (λ share. handed share packet) shares)
bounded_handed view packet [] short = tt
bounded_handed view packet (share ∷ others) short = (short, bounded_handed (handed share packet ∷ view) packet others short)

whole_handed : (packet : PacketIn) (shares : List Share) → All IsWholeEntry (map (λ share. handed share packet) shares)
whole_handed packet [] = All-nil IsWholeEntry
whole_handed packet (share ∷ others) = All-cons IsWholeEntry (handed share packet) (map (λ other. handed other packet) others) tt (whole_handed packet others)

-- each packet may have a message
all_speak : (packet : PacketIn) (shares : List Share) → filter speaks (map (λ share. handed share packet) shares) ≡ map (λ share. handed share packet) shares
all_speak packet [] = refl
all_speak packet (share ∷ others) = ap (λ (rest : List Item). handed share packet ∷ rest) (all_speak packet others)

few_shares : (marked : Option ℕ) (slot : ℕ) (writes reads numbered : Bool)
    → length (elim marked as (λ x. List Share) [ None ↦ (if writes then Writer numbered ∷ [] else []) ++ (if reads then Reader ∷ [] else []) | Some other ↦ if other == slot then Probe ∷ [] else [] ]) ≤ 2
few_shares None slot true true numbered = omega arith
few_shares None slot true false numbered = omega arith
few_shares None slot false true numbered = omega arith
few_shares None slot false false numbered = omega arith
few_shares (Some other) slot writes reads numbered = either (λ (shares : List Share). length shares ≤ 2) (other == slot) (Probe ∷ []) [] (omega arith) (omega arith)

handed_few : (policy : PolicyView) (rules : List Rule) (slot : ℕ) (view : List Item) (packet : PacketIn) → IsShortPacket packet → AreFewItems view (map (λ share. handed share packet) (shares_of policy rules slot packet))
handed_few policy rules slot view packet short =
    let shares = few_shares (marked_slot (length policy.slices) packet.payload) slot (is_value slot (writer_of rules (header_in packet))) (bit (readers_of rules (header_in packet)) slot) (is_some (number_given packet)) in
    record {
      few = rw (all_speak packet (shares_of policy rules slot packet), length-map (shares_of policy rules slot packet) (λ share. handed share packet)) shares;
      bounded = bounded_handed view packet (shares_of policy rules slot packet) short;
      whole = whole_handed packet (shares_of policy rules slot packet);
    }

-- what is lost has no message
lost_few : (view shown : List Item) (lost : Option ℕ) → ((others : List Item) → AreFewItems others shown) → AreFewItems view (elim lost as (λ x. List Item) [ None ↦ [] | Some k ↦ Lost k ∷ [] ] ++ shown)
lost_few view shown None few = few view
lost_few view shown (Some k) few =
    let rest = few (Lost k ∷ view) in
    record { few = rest.few; bounded = (tt, rest.bounded); whole = All-cons IsWholeEntry (Lost k) shown tt rest.whole }

packet_few : (policy : PolicyView) (rules : List Rule) (slot : ℕ) (side : SliceSide) (packet : PacketIn) → IsShortPacket packet → AreFewItems side.sight.view (packet_in_items policy rules slot side packet)
packet_few policy rules slot side packet short =
    lost_few side.sight.view (packet_items policy rules slot side.sight.view packet) (option_and_then (λ number. holder number side.numbered) (number_given packet))
    (λ others. items_if others (is_up side.sight.view) (map (λ share. handed share packet) (shares_of policy rules slot packet)) (handed_few policy rules slot others packet short))

-- ---- ports

status_few : (s : Settings) (view : List Item) (known : List (List ℕ)) (status : PortStatus) → IsWhole status → AreFewItems view (status_items s known status)
status_few s view known status whole =
    items_if view (is_kept status known && is_own_port s.slot s.patterns (port_number status.port)) (Status status ∷ []) (one_item view (Status status) whole tt)

-- ---- entries and errors

removed_few : (s : Settings) (view : List Item) (entry : FlowRemoved) → AreFewItems view (removed_items s entry)
removed_few s view entry =
    let item = Removed (record entry { xid = 0 }) in
    items_if view (list_any (λ pattern. includes_of pattern entry.pattern) s.patterns) (item ∷ []) (one_item view item tt tt)

error_few : (s : Settings) (view : List Item) (xid : ℕ) (error : ErrorMessage) → AreFewItems view (error_items s xid error)
error_few s view xid error =
    let item = Fault (xid % 2 ^ 24) error.class error.code (pair_in xid error.cause) in
    items_if view (is_reply_to s xid) (item ∷ []) (one_item view item tt tt)

-- ---- replies

barrier_few : (s : Settings) (view : List Item) (xid : ℕ) → AreFewItems view (barrier_items s xid)
barrier_few s view xid =
    let item = Barrier (xid % 2 ^ 24) in
    items_if view (is_reply_to s xid) (item ∷ []) (one_item view item tt tt)

queues_few : (s : Settings) (view : List Item) (xid : ℕ) (queues : QueuesMessage) → length queues.body ≤ 65527 → AreFewItems view (queues_items s xid queues)
queues_few s view xid queues short =
    let item = Queues (xid % 2 ^ 24) queues.body in
    items_if view (is_reply_to s xid && is_own_port s.slot s.patterns queues.port) (item ∷ []) (one_item view item short tt)

queues_short : (message : List ℕ) → IsShort message → IfOk (read_queues message) (λ queues. length queues.body ≤ 65527)
unfolding read_queues
queues_short message short = elim (cases_Bool (ltb (length message) 16)) [
  | inl is ↦ rw is tt
  | inr isnt ↦ (let rest = length-drop 8 message in rw isnt (omega arith))
]

-- ---- the opening

opening_few : (policy : PolicyView) (slot : ℕ) (view : List Item) (told : Option Features) → AreFewItems view (opening_items policy slot told)
opening_few policy slot view None = no_items view
opening_few policy slot view (Some features) = one_item view (items.Opened (own_features (settings_at policy slot (Some features)) features)) tt tt

-- ---- what is sent for them

-- little is sent for the items, and unless they are statistics at most two messages
pub record AreAnswered (statistics : Bool) (s : Settings) (view shown : List Item) : Type 0 where
  pub small : AreSmall 524492 (sent_for s view shown)
  pub few : statistics ≡ false → AreFew 2 (sent_for s view shown)
  pub whole : All IsWholeEntry shown

answered_few : (statistics : Bool) (s : Settings) (view shown : List Item) → AreFewItems view shown → AreAnswered statistics s view shown
answered_few statistics s view shown are =
    let few = few-more (speaking shown) 2 (sent_for s view shown) are.few (sent_size s view shown are.bounded) in
    record { small = small-few 2 524492 (sent_for s view shown) (omega arith) few; few = λ plain. few; whole = are.whole }

answered_statistics : (statistics : Bool) (s : Settings) (view shown : List Item) → statistics ≡ true → AreReplied s view shown → AreAnswered statistics s view shown
answered_statistics statistics s view shown is are = record { small = are.small; few = λ plain. absurd (true≢false (sym is ∙ plain)); whole = are.whole }

-- ---- events

-- what a message says fits one, and its ports have 48 bytes each
abbrev IsShortSaid : SwitchMessage → Type 0
IsShortSaid (says.PacketIn packet) = IsShortPacket packet
IsShortSaid (says.PortStatus status) = IsWhole status
IsShortSaid (says.StatsReply part body) = length body ≤ page_size
IsShortSaid (says.QueueGetConfigReply queues) = length queues.body ≤ 65527
IsShortSaid said = Unit {0}

said_short : (message : List ℕ) → IsShort message → IfOk (read_switch message) IsShortSaid
said_short message short = of_switch (λ said. IfOk said IsShortSaid) message (record {
  unread = λ fault is. tt;
  hello = tt;
  error = λ error is. tt;
  echo_request = tt;
  echo_reply = tt;
  vendor = tt;
  features = λ features is. tt;
  config = λ config is. tt;
  packet = λ packet is. if_read IsShortPacket (read_packet_in message) packet is (packet_short message short);
  removal = λ entry is. tt;
  status = λ status is. if_read IsWhole (read_port_status message) status is (read_status message);
  part = λ part is. if_read (λ (found : StatsPart). length (drop found.from message) ≤ page_size) (part_of message) part is (part_body message short);
  barrier = tt;
  queues = λ queues is. if_read (λ (found : QueuesMessage). length found.body ≤ 65527) (read_queues message) queues is (queues_short message short);
}) tt

said_answered : (policy : PolicyView) (slot : ℕ) (switch : KnownSwitch) (side : SliceSide) (xid : ℕ) (said : Result SwitchMessage Unread) → IfOk said IsShortSaid → All IsWholeEntry side.sight.view
    → AreAnswered (is_statistics said) (settings_at policy slot switch.features) side.sight.view (said_items policy slot switch side xid said)
said_answered policy slot switch side xid (Err BadLength) short whole = answered_few false (settings_at policy slot switch.features) side.sight.view (End ∷ []) (one_item side.sight.view End tt tt)
said_answered policy slot switch side xid (Ok (says.PacketIn packet)) short whole =
    answered_few false (settings_at policy slot switch.features) side.sight.view _ (packet_few policy (rules_of policy switch.features) slot side packet short)
said_answered policy slot switch side xid (Ok (says.FlowRemoved entry)) short whole =
    let s = settings_at policy slot switch.features in
    answered_few false s side.sight.view _ (removed_few s side.sight.view entry)
said_answered policy slot switch side xid (Ok (says.PortStatus status)) short whole =
    let s = settings_at policy slot switch.features in
    answered_few false s side.sight.view _ (status_few s side.sight.view switch.known status short)
said_answered policy slot switch side xid (Ok (says.Error error)) short whole =
    let s = settings_at policy slot switch.features in
    answered_few false s side.sight.view _ (error_few s side.sight.view xid error)
said_answered policy slot switch side xid (Ok says.BarrierReply) short whole =
    let s = settings_at policy slot switch.features in
    answered_few false s side.sight.view _ (barrier_few s side.sight.view xid)
said_answered policy slot switch side xid (Ok (says.QueueGetConfigReply queues)) short whole =
    let s = settings_at policy slot switch.features in
    answered_few false s side.sight.view _ (queues_few s side.sight.view xid queues short)
said_answered policy slot switch side xid (Ok (says.StatsReply part body)) short whole =
    let s = settings_at policy slot switch.features in
    answered_statistics true s side.sight.view _ refl (statistics_replied s side.sight.view xid part body short whole)
said_answered policy slot switch side xid said short whole = answered_few false (settings_at policy slot switch.features) side.sight.view [] (no_items side.sight.view)

message_answered : (policy : PolicyView) (slot : ℕ) (switch : KnownSwitch) (side : SliceSide) (message : List ℕ) → IsShort message → All IsWholeEntry side.sight.view
    → AreAnswered (is_statistics (read_switch message)) (settings_at policy slot switch.features) side.sight.view (message_items policy slot switch side message)
unfolding message_items
message_answered policy slot switch side message short whole = said_answered policy slot switch side (xid_of message) (read_switch message) (said_short message short) whole

event_answered : (policy : PolicyView) (slot moment : ℕ) (switch : KnownSwitch) (side : SliceSide) (event : Event) → HasFewPorts side.sight.view → All IsWholeEntry side.sight.view → IsFramed event
    → AreAnswered (tells_statistics event) (settings_at policy slot switch.features) side.sight.view (event_items policy slot switch side moment event)
event_answered policy slot moment switch side (SwitchMsg message) ports whole framed = message_answered policy slot switch side message framed.small whole
event_answered policy slot moment switch side SwitchUp ports whole framed = answered_few false (settings_at policy slot switch.features) side.sight.view [] (no_items side.sight.view)
event_answered policy slot moment switch side SwitchDown ports whole framed = answered_few false (settings_at policy slot switch.features) side.sight.view (End ∷ []) (one_item side.sight.view End tt tt)
event_answered policy slot moment switch side (SliceUp other) ports whole framed =
    answered_few false (settings_at policy slot switch.features) side.sight.view _ (items_if side.sight.view (other == slot) (Up ∷ []) (one_item side.sight.view Up tt tt))
event_answered policy slot moment switch side (SliceMsg other message) ports whole framed =
    answered_few false (settings_at policy slot switch.features) side.sight.view _
    (items_if side.sight.view (other == slot && is_up side.sight.view) (Msg message moment ∷ []) (one_item side.sight.view (Msg message moment) (framed.small, ports) tt))
event_answered policy slot moment switch side (SliceDown other) ports whole framed =
    answered_few false (settings_at policy slot switch.features) side.sight.view _ (items_if side.sight.view (other == slot) (Down ∷ []) (one_item side.sight.view Down tt tt))

phase_answered : (policy : PolicyView) (slot : ℕ) (switch : KnownSwitch) (side : SliceSide) (timed : Timed) (phase : Phase) → HasFewPorts side.sight.view → All IsWholeEntry side.sight.view → IsFramed timed.event
    → AreAnswered (tells_statistics timed.event) (settings_at policy slot switch.features) side.sight.view (phase_items policy slot switch side timed phase)
phase_answered policy slot switch side timed Fresh ports whole framed = answered_few (tells_statistics timed.event) (settings_at policy slot switch.features) side.sight.view [] (no_items side.sight.view)
phase_answered policy slot switch side timed Begun ports whole framed =
    answered_few (tells_statistics timed.event) (settings_at policy slot switch.features) side.sight.view _ (opening_few policy slot side.sight.view (opening_with Begun timed.event))
phase_answered policy slot switch side timed Opened ports whole framed = event_answered policy slot timed.moment switch side timed.event ports whole framed
phase_answered policy slot switch side timed Gone ports whole framed = answered_few (tells_statistics timed.event) (settings_at policy slot switch.features) side.sight.view [] (no_items side.sight.view)

-- ---- histories

-- what an event shows after a view of whole entries
abbrev pub IsAnswered : PolicyView → ℕ → List Timed → Timed → Type 0
IsAnswered policy slot h timed =
    AreAnswered (tells_statistics timed.event) (settings_at policy slot (opening_of h)) (view_of policy slot h) (items_of policy slot (switch_of h) (side_of policy slot h) timed)

answered_after : (policy : PolicyView) (slot : ℕ) (h : List Timed) (timed : Timed) → AreFramed h → IsFramed timed.event → All IsWholeEntry (view_of policy slot h) → IsAnswered policy slot h timed
answered_after policy slot h timed framed one whole = elim (cases_Bool (is_slot policy slot)) [
  | inl here ↦ rw here (phase_answered policy slot (switch_of h) (side_of policy slot h) timed (phase_of h) (few_ports policy slot h framed here) whole one)
  | inr isnt ↦ rw isnt (answered_few (tells_statistics timed.event) (settings_at policy slot (opening_of h)) (view_of policy slot h) [] (no_items (view_of policy slot h)))
]

whole_with : (items view : List Item) → All IsWholeEntry items → All IsWholeEntry view → All IsWholeEntry (with_items items view)
whole_with [] view all whole = whole
whole_with (item ∷ items) view all whole =
    whole_with items (item ∷ view) (All-tail IsWholeEntry item items all) (All-cons IsWholeEntry item view (All-head IsWholeEntry item items all) whole)

whole_view : (policy : PolicyView) (slot : ℕ) (h : List Timed) → AreFramed h → All IsWholeEntry (view_of policy slot h)
whole_view policy slot [] framed = All-nil IsWholeEntry
whole_view policy slot (timed ∷ h) framed =
    let before = All-tail (λ (one : Timed). IsFramed one.event) timed h framed in
    let whole = whole_view policy slot h before in
    let now = answered_after policy slot h timed before (All-head (λ (one : Timed). IsFramed one.event) timed h framed) whole in
    whole_with (items_of policy slot (switch_of h) (side_of policy slot h) timed) (view_of policy slot h) now.whole whole

pub items_answered : (policy : PolicyView) (slot : ℕ) (h : List Timed) (timed : Timed) → AreFramed h → IsFramed timed.event → IsAnswered policy slot h timed
items_answered policy slot h timed framed one = answered_after policy slot h timed framed one (whole_view policy slot h framed)
