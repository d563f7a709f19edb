-- Each field of what is sent for a slice lies in its range; and what holds of all that is sent holds of each message.
use Rattle.std.proofs.Common.{◌≡◌, ◌⊎◌, refl, sym, ◌∙◌, ap, subst, ℕ, ◌==◌, ◌<◌, ◌^◌, inl, inr, Bool, true, false, true≢false, if◌then◌else◌, ◌≢◌, List, [], ◌∷◌, get_or, slice_index, All, Option, Some, None, IfSome, arith}
use Rattle.std.proofs.lemmas.Bool.{eq-eqb}
use Rattle.std.proofs.lemmas.Option.{none-some, same_Some}
use Rattle.std.proofs.lemmas.List.Elements.{All-nil, All-cons, All-head, All-tail, All-filter, All-weaker}
use Rattle.std.proofs.lemmas.List.Sorted.{All-permutation}
use Rattle.std.specs.List.{filter}
use Rattle.of10_model.specs.declared.pattern.Pattern.{Pattern}
use Rattle.of10_model.specs.Header.{Header}
use Rattle.of10_model.specs.Normal.{IsNormal, is_value}
use Rattle.of10_model.proofs.Results.{either}
use Rattle.of10_action.specs.declared.action.Action.{Action}
use Rattle.of10_action.specs.Actions.{IsAction}
use Rattle.of10_port.specs.declared.features.Features.{Features}
use Rattle.of10_flow.specs.declared.flow_mod.FlowMod.{FlowMod}
use Rattle.of10_flow.specs.declared.protocol.TheConstants.{NO_BUFFER, SEND_FLOW_REM}
use Rattle.of10_flow.specs.declared.packet_in.PacketIn.{PacketIn}
use Rattle.of10_flow.specs.declared.packet_out.PacketOut.{PacketOut}
use Rattle.of10_flow.specs.Tables.{is_delete}
use Rattle.frame_header.specs.Headers.{header_of_packet}
use Rattle.of10_message.specs.Switch.{read_switch}
use Rattle.of10_message.proofs.SwitchCases.{of_switch}
use Rattle.flowspace.specs.declared.rules.Rule.{Rule}
use Rattle.flowspace.specs.Rules.{holds}
use Rattle.flowspace.specs.Order.{in_order, rules_on}
use Rattle.flowspace.specs.Policies.{PolicyView, IsPolicy, AreNormal}
use Rattle.flowspace.proofs.Ordering.{IsPermutation-in_order}
use Rattle.flowspace.proofs.Refusing.{is_value-Some}
use Rattle.flowmod_expand.specs.Pieces.{writes_of, pieces_of}
use Rattle.flowmod_expand.specs.Messages.{piece_message}
use Rattle.flowmod_expand.proofs.Space.{pieces_of_normal}
use Rattle.action_check.specs.declared.origin.Origin.TheVariants.{Piece, Packet, Probe}
use Rattle.action_check.specs.declared.origin.Origin.{Origin}
use Rattle.action_check.proofs.Sizes.{IsAction-expanded}
use Rattle.action_check.proofs.Ways.{permitted-Ok}
use Rattle.recording.proofs.Untold.{bytes_of}
use Rattle.port_turns.proofs.StayBytes.{turn_in_bytes}
use Rattle.slice_words.specs.Items.{message_turned}
use Rattle.slice_words.specs.Buffers.{HeldPacket}
use Rattle.slice_words.specs.FlowMods.{Ground, named_packet}
use Rattle.flow_facts.specs.PacketOuts.{carried_header}
use Rattle.slice_words.specs.PacketOuts.{packet_out_fault}
use Rattle.slice_words.proofs.Holding.{found_holds}
use Rattle.desk_words.specs.declared.event.Event.{Event}
use Rattle.desk_words.specs.declared.event.Event.TheVariants.{SwitchUp, SwitchMsg, SwitchDown, SliceUp, SliceMsg, SliceDown}
use Rattle.desk_words.specs.declared.phase.Phase.{Phase}
use Rattle.desk_words.specs.declared.phase.Phase.TheVariants.{Fresh, Begun, Opened, Gone}
use Rattle.desk_words.specs.declared.event.Timed.{Timed}
use Rattle.desk_words.specs.Openings.{phase_of, opening_of}
use Rattle.desk_words.specs.Histories.{is_slot, settings_at, header_in, packet_said, number_given, side_of, packet_handed}
use Rattle.desk_words.specs.Sent.{lane_by}
use Rattle.of10_flow.specs.FlowMods.{IsRanged}
use Rattle.of10_flow.specs.PacketOuts.{IsRangedOut}
use Rattle.flow_facts.specs.FlowMods.{LiesInFlowspace, OutputsToOwnPorts, LeavesOtherHeaders}
use Rattle.flow_facts.specs.PacketOuts.{SendsOwnPacket, SendsToOwnPorts, ChangesNoTable}
use Rattle.flow_facts.specs.Messages.{IsEitherThat, AsksForReply, IsSentThat}
use Rattle.desk_words.specs.Arrivals.{Arrival, arrivals, arrival_under, IsBufferHeader}
use Rattle.lane_laws.specs.Lane.{IsOfBytes, CarriesOwnBuffer, SendsOwnBuffer, switch_number, rules_in}
use Rattle.lane_laws.proofs.Reading.{IsRead, IsReadOut, IsReadIn, read_in, read_of, read_out_of}
use Rattle.lane_laws.proofs.Keeping.{IsKept}
use Rattle.lane_laws.proofs.Own.{HoldsOfLists}
use Rattle.lane_laws.proofs.Outs.{list_for, sent_held, out_holds, packet_holds}
use Rattle.lane_laws.proofs.Sent.{kept_all, packet_named, HoldsOfSent, IsSpelled, each_in_lane, patterns_are, ground_by, flow_mods_by, packet_out_by, MayCarry, list, each_on, lists_hold, actions_hold, all_lie, all_output, all_leave, all_own}

-- ---- flow-mods

-- what is sent for a piece has each field in its range
pub ranged_sent : (m : FlowMod) (xid : ℕ) (piece : Pattern) (actions : List Action) (buffer : ℕ) → IsRead m → IsNormal piece → buffer < 2 ^ 32 → All IsAction (piece_message m xid piece actions buffer).actions
    → IsRanged (piece_message m xid piece actions buffer)
unfolding piece_message
ranged_sent m xid piece actions buffer read normal kept each = record {
  pattern = normal;
  cookie = read.cookie;
  command = read.command;
  idle = read.idle;
  hard = read.hard;
  priority = read.priority;
  buffer = either (λ n. n < 2 ^ 32) _ NO_BUFFER buffer (omega arith) kept;
  out_port = read.out_port;
  flags = either (λ n. n < 2 ^ 16) _ 0 SEND_FLOW_REM (omega arith) (omega arith);
  actions = each;
}

pub normal_on : (rs : List Rule) (datapath : ℕ) → AreNormal rs → AreNormal (rules_on datapath rs)
normal_on rs datapath normal =
    let P = λ (r : Rule). IsNormal r.pattern in
    let on = filter (holds datapath) rs in
    All-permutation P on (in_order on) (IsPermutation-in_order on) (All-filter (holds datapath) P rs normal)

-- the list of an origin has each field in its range
pub given_ranged : (rules : List Rule) (slot : ℕ) (origin : Origin) (actions : List Action) → All IsAction actions → HoldsOfLists (All IsAction) rules slot origin actions
given_ranged rules slot origin actions each = record {
  none = All-nil IsAction;
  some = λ flood all given on_flood on_all permits. rw (permitted-Ok rules slot origin actions flood all given permits).is_expanded (IsAction-expanded rules slot flood all on_flood on_all actions each);
}

-- ---- packets of the switch

packet_read : (message : List ℕ) → All (λ byte. byte < 256) message → IfSome (packet_said (read_switch message)) IsReadIn
packet_read message bytes = of_switch (λ said. IfSome (packet_said said) IsReadIn) message (record {
  unread = λ fault is. tt;
  hello = tt;
  error = λ error is. tt;
  echo_request = tt;
  echo_reply = tt;
  vendor = tt;
  features = λ features is. tt;
  config = λ config is. tt;
  packet = λ packet is. read_in message packet (bytes_of message bytes) is;
  removal = λ entry is. tt;
  status = λ status is. tt;
  part = λ part is. tt;
  barrier = tt;
  queues = λ queues is. tt;
}) tt

handed_read : (phase : Phase) (event : Event) (packet : PacketIn) → IsOfBytes event → packet_handed phase event ≡ Some packet → IsReadIn packet
handed_read Fresh event packet bytes is = absurd (none-some packet is)
handed_read Begun event packet bytes is = absurd (none-some packet is)
handed_read Gone event packet bytes is = absurd (none-some packet is)
handed_read Opened SwitchUp packet bytes is = absurd (none-some packet is)
handed_read Opened (SwitchMsg message) packet bytes is = subst (λ found. IfSome found IsReadIn) is (packet_read message bytes)
handed_read Opened SwitchDown packet bytes is = absurd (none-some packet is)
handed_read Opened (SliceUp slot) packet bytes is = absurd (none-some packet is)
handed_read Opened (SliceMsg slot message) packet bytes is = absurd (none-some packet is)
handed_read Opened (SliceDown slot) packet bytes is = absurd (none-some packet is)

abbrev Read : Arrival → Type 0
Read arrival = IsReadIn arrival.packet

all_read : (h : List Timed) → All (λ t. IsOfBytes t.event) h → All Read (arrivals h)
all_read [] bytes = All-nil Read
all_read (timed ∷ h) bytes = by_told (packet_handed (phase_of h) timed.event) refl (all_read h (All-tail (λ t. IsOfBytes t.event) timed h bytes))
  where
    by_told : (told : Option PacketIn) → packet_handed (phase_of h) timed.event ≡ told → All Read (arrivals h)
        → All Read (elim told [ None ↦ arrivals h | Some packet ↦ record { before = h; timed = timed; packet = packet } ∷ arrivals h ])
    by_told None is earlier = earlier
    by_told (Some packet) is earlier =
        All-cons Read (record { before = h; timed = timed; packet = packet }) (arrivals h)
        (handed_read (phase_of h) timed.event packet (All-head (λ t. IsOfBytes t.event) timed h bytes) is) earlier

by_number : (none : Bool) (buffer number : ℕ) → (buffer == NO_BUFFER) ≡ none → (if none then None else Some buffer) ≡ Some number → (buffer ≡ number) × (number ≢ NO_BUFFER)
by_number true buffer number is given = absurd (none-some number given)
by_number false buffer number is given =
    let same = same_Some buffer number given in
    (same, λ e. true≢false (sym (eq-eqb buffer NO_BUFFER (same ∙ e)) ∙ is))

-- the number and the port of a packet that is found lie in their ranges, and the number is one
pub record IsFound (number : ℕ) (arrival : Arrival) : Type 0 where
  pub below : number < 2 ^ 32
  pub in_port : arrival.packet.in_port < 2 ^ 16
  pub is_number : number ≢ NO_BUFFER

pub found_under : (h : List Timed) → All (λ t. IsOfBytes t.event) h → (number : ℕ) (arrival : Arrival) → arrival_under number h ≡ Some arrival → IsFound number arrival
found_under h bytes number arrival is =
    let found = found_holds Read (λ other. is_value number (number_given other.packet)) (arrivals h) arrival (all_read h bytes) is in
    let given = is_value-Some number (number_given arrival.packet) found.1 in
    let own = by_number (arrival.packet.buffer == NO_BUFFER) arrival.packet.buffer number refl given in
    record { below = subst (λ n. n < 2 ^ 32) own.0 found.0.buffer; in_port = found.0.in_port; is_number = own.1 }

pub header_port : (packet : PacketIn) → (header_in packet).in_port ≡ packet.in_port
unfolding header_of_packet
header_port packet = refl

-- ---- after a history

module _ (policy : PolicyView) (slot : ℕ) (h : List Timed) (bytes : All (λ t. IsOfBytes t.event) h) (features : Features) (is : opening_of h ≡ Some features) (here : is_slot policy slot ≡ true) where
  abbrev rules : List Rule
  rules = rules_on features.datapath policy.rules

  abbrev ground : Ground
  ground = ground_by policy slot h (Some features)

  abbrev came : List ℕ
  came = (side_of policy slot h).sight.came

  -- the number that a flow-mod carries has 32 bits
  number_below : (m : FlowMod) (piece : Pattern) (buffer : ℕ) → MayCarry came (named_packet ground m) piece buffer → buffer < 2 ^ 32
  number_below m piece buffer (inl none) = omega (arith, none)
  number_below m piece buffer (inr (packet, named, number, has_header)) =
      let kept = packet_named policy slot h features is here m (is_delete m) packet named in
      subst (λ n. n < 2 ^ 32) (sym number) (found_under h bytes (switch_number policy slot h packet.ordinal) kept.arrival kept.is_last).below

  pub ranged_on : AreNormal policy.rules → (m : FlowMod) → IsRead m → All IsRanged (flow_mods_by policy slot h ground m)
  ranged_on normal m read =
      each_on IsRanged came ground m (writes_of rules slot) (patterns_are policy slot (Some features) here)
      (λ k d within buffer carrying.
      let piece = get_or (pieces_of rules slot m.pattern) k d in
      let piece_normal = pieces_of_normal rules slot m.pattern (normal_on policy.rules features.datapath normal) read.pattern k d within in
      ranged_sent m ground.xid piece (list ground m piece) buffer read piece_normal (number_below m piece buffer carrying)
      (actions_hold (All IsAction) policy slot h features is here m ground.xid piece buffer (given_ranged rules slot (Piece piece) m.actions read.actions)))

  ranges_for : (m : PacketOut) → IsReadOut m → (origin : Origin) → All IsAction (list_for ground m origin)
  ranges_for m read origin = lists_hold (All IsAction) policy slot h features is here origin m.actions (given_ranged rules slot origin m.actions read.actions)

  held_ranged : (m : PacketOut) → IsReadOut m → (packet : HeldPacket) → IsKept policy slot rules h (switch_number policy slot h packet.ordinal) packet → IsRangedOut (sent_held came ground m packet)
  held_ranged m read packet kept =
      let found = found_under h bytes (switch_number policy slot h packet.ordinal) kept.arrival kept.is_last in
      let port : packet.header.in_port ≡ kept.arrival.packet.in_port = ap (λ (header : Header). header.in_port) kept.header ∙ header_port kept.arrival.packet in
      record { buffer = found.below; in_port = subst (λ n. n < 2 ^ 16) (sym port) found.in_port; actions = ranges_for m read (Packet packet.header) }

  pub out_ranged_on : (m : PacketOut) → IsReadOut m → packet_out_fault ground m ≡ None → IsRangedOut (packet_out_by policy slot h ground m)
  out_ranged_on m read none =
      out_holds IsRangedOut came ground m none (record {
        held = λ packet named. held_ranged m read packet (packet_holds (λ held. IsKept policy slot rules h (switch_number policy slot h held.ordinal) held) ground m.buffer packet (kept_all policy slot h features is here) named);
        probe = λ comes probe. record { buffer = omega arith; in_port = read.in_port; actions = ranges_for m read (Probe m.in_port) };
        carried = λ comes probe lies. record { buffer = omega arith; in_port = read.in_port; actions = ranges_for m read (Packet (carried_header m)) };
      })

-- what holds of all that is sent holds of each message, with its fields in their ranges
pub each_ranged : (P : List Rule → FlowMod → Type 0) (Q : List Rule → PacketOut → Type 0) (R : List Rule → List ℕ → Type 0) (policy : PolicyView) → AreNormal policy.rules
    → (h : List Timed) (timed : Timed) (slot : ℕ) (message : List ℕ) → All (λ t. IsOfBytes t.event) (timed ∷ h) → timed.event ≡ SliceMsg slot message → HoldsOfSent P Q R policy slot h message
    → All (λ sent. IsEitherThat (P (rules_in policy h)) (Q (rules_in policy h)) sent ⊎ R (rules_in policy h) sent) (lane_by policy h timed)
each_ranged P Q R policy normal h timed slot message all_bytes is each =
    let OfFlowMod = λ (rules : List Rule) (m : FlowMod). IsRanged m × P rules m in
    let OfPacketOut = λ (rules : List Rule) (m : PacketOut). IsRangedOut m × Q rules m in
    let rules = rules_in policy h in
    let earlier = All-tail (λ t. IsOfBytes t.event) timed h all_bytes in
    let bytes : All (λ byte. byte < 256) message = subst IsOfBytes is (All-head (λ t. IsOfBytes t.event) timed h all_bytes) in
    let turned = λ (features : Features). message_turned (settings_at policy slot (Some features)) message in
    let of_turned : (features : Features) → (k : ℕ) → slice_index (turned features) k < 256 = λ features. bytes_of (turned features) (turn_in_bytes (settings_at policy slot (Some features)).swaps message bytes) in
    All-weaker (λ sent. IsSpelled (OfFlowMod rules) (OfPacketOut rules) sent ⊎ R rules sent) (λ sent. IsEitherThat (P rules) (Q rules) sent ⊎ R rules sent)
    (λ sent whole. elim whole [
      | inl (inl (m, spelled, (ranged, own))) ↦ inl (inl (m, spelled, ranged, own))
      | inl (inr (m, spelled, (ranged, own))) ↦ inl (inr (m, spelled, ranged, own))
      | inr question ↦ inr question
    ])
    (lane_by policy h timed)
    (each_in_lane OfFlowMod OfPacketOut R policy h timed slot message is (record {
      flow_mods = λ features opened here m read none k d within. (
        ranged_on policy slot h earlier features opened here normal m (read_of (turned features) m (of_turned features) read) k d within,
        each.flow_mods features opened here m read none k d within,
      );
      packet_outs = λ features opened here m read none. (
        out_ranged_on policy slot h earlier features opened here m (read_out_of (turned features) m (of_turned features) read) none,
        each.packet_outs features opened here m read none,
      );
      questions = each.questions;
    }))

-- ---- the laws

pub each_lies : (policy : PolicyView) → IsPolicy policy.slices policy.rules → AreNormal policy.rules → (h : List Timed) (timed : Timed) (slot : ℕ) (message : List ℕ) → All (λ t. IsOfBytes t.event) (timed ∷ h)
    → timed.event ≡ SliceMsg slot message → All (IsSentThat (LiesInFlowspace (rules_in policy h) slot) (SendsOwnPacket (IsBufferHeader h) (rules_in policy h) slot)) (lane_by policy h timed)
each_lies policy accepted normal h timed slot message bytes is =
    each_ranged (λ rules. LiesInFlowspace rules slot) (λ rules. SendsOwnPacket (IsBufferHeader h) rules slot) (λ rules. AsksForReply) policy normal h timed slot message bytes is (all_lie policy accepted h slot message)

pub each_outputs : (policy : PolicyView) → AreNormal policy.rules → (h : List Timed) (timed : Timed) (slot : ℕ) (message : List ℕ) → All (λ t. IsOfBytes t.event) (timed ∷ h)
    → timed.event ≡ SliceMsg slot message → All (IsSentThat (OutputsToOwnPorts (rules_in policy h) slot) (SendsToOwnPorts (rules_in policy h) slot)) (lane_by policy h timed)
each_outputs policy normal h timed slot message bytes is =
    each_ranged (λ rules. OutputsToOwnPorts rules slot) (λ rules. SendsToOwnPorts rules slot) (λ rules. AsksForReply) policy normal h timed slot message bytes is (all_output policy h slot message)

pub each_leaves : (policy : PolicyView) → IsPolicy policy.slices policy.rules → AreNormal policy.rules → (h : List Timed) (timed : Timed) (slot : ℕ) (message : List ℕ) → All (λ t. IsOfBytes t.event) (timed ∷ h)
    → timed.event ≡ SliceMsg slot message → All (IsSentThat (LeavesOtherHeaders (rules_in policy h) slot) ChangesNoTable) (lane_by policy h timed)
each_leaves policy accepted normal h timed slot message bytes is =
    each_ranged (λ rules. LeavesOtherHeaders rules slot) (λ rules. ChangesNoTable) (λ rules. AsksForReply) policy normal h timed slot message bytes is (all_leave policy accepted h slot message)

pub each_buffer : (policy : PolicyView) → AreNormal policy.rules → (h : List Timed) (timed : Timed) (slot : ℕ) (message : List ℕ) → All (λ t. IsOfBytes t.event) (timed ∷ h)
    → timed.event ≡ SliceMsg slot message → All (IsSentThat (CarriesOwnBuffer policy slot h) (SendsOwnBuffer policy slot h)) (lane_by policy h timed)
each_buffer policy normal h timed slot message bytes is =
    each_ranged (λ rules. CarriesOwnBuffer policy slot h) (λ rules. SendsOwnBuffer policy slot h) (λ rules. AsksForReply) policy normal h timed slot message bytes is (all_own policy h slot message)
