-- What is sent for a slice is read as it was sent, and stays within the slice.
use Rattle.std.proofs.Common.{◌≡◌, ◌⊎◌, refl, sym, ◌∙◌, ap, subst, ℕ, ◌<◌, ◌≤◌, ◌^◌, inl, inr, true, false, true≢false, List, [], ◌∷◌, ◌++◌, length, map, get_or, slice_index, All, Option, Some, None, option_map, arith}
use Rattle.std.proofs.lemmas.Bool.{ltb-true, ltb-false, eq-eqb}
use Rattle.std.proofs.lemmas.Option.{none-some, same_Some}
use Rattle.std.proofs.lemmas.List.{get_or-map, length-map}
use Rattle.std.proofs.lemmas.List.Elements.{All-nil, All-head, All-tail, All-weaker}
use Rattle.of10_model.specs.declared.pattern.Pattern.{Pattern}
use Rattle.of10_model.specs.Header.{Header, IsHeader}
use Rattle.of10_action.specs.declared.action.Action.{Action}
use Rattle.of10_action.specs.Actions.{IsAction}
use Rattle.of10_ctl.specs.declared.kind.TheConstants.{FLOW_MOD, PACKET_OUT}
use Rattle.of10_ctl.specs.Kinds.{IsOf}
use Rattle.of10_port.specs.declared.features.Features.{Features}
use Rattle.of10_flow.specs.declared.flow_mod.FlowMod.{FlowMod}
use Rattle.of10_flow.specs.declared.protocol.TheConstants.{NO_BUFFER}
use Rattle.of10_flow.specs.FlowMods.{IsRanged, IsFlowMod, spell_flow_mod, read_flow_mod}
use Rattle.of10_flow.specs.declared.packet_out.PacketOut.{PacketOut}
use Rattle.of10_flow.specs.PacketOuts.{IsPacketOut, read_packet_out}
use Rattle.of10_flow.proofs.Again.{flow_mod_of, flow_mod_again, packet_out_of, packet_out_again}
use Rattle.flowspace.specs.declared.rules.Rule.{Rule}
use Rattle.flowspace.specs.Order.{rules_on}
use Rattle.flowspace.specs.Policies.{PolicyView, IsPolicy, IsSwitchPolicy, AreNormal}
use Rattle.flowspace.proofs.Parts.{IsSwitchPolicy-rules_on}
use Rattle.flowmod_expand.specs.Pieces.{writes_of, pieces_of}
use Rattle.flowmod_expand.specs.Messages.{piece_message}
use Rattle.flowmod_expand.proofs.Space.{Owns-pieces_of, pieces_of_normal}
use Rattle.flowmod_expand.proofs.Walks.{spell_size, sizes_within}
use Rattle.action_check.specs.declared.origin.Origin.TheVariants.{Piece, Packet}
use Rattle.action_check.specs.declared.origin.Origin.{Origin}
use Rattle.action_check.specs.Soundness.{IsOrigin, HasWay, IsSound}
use Rattle.action_check.proofs.Ways.{permitted-IsSound}
use Rattle.recording.proofs.Untold.{bytes_of}
use Rattle.xid_map.specs.Requests.{physical_of}
use Rattle.slice_words.specs.Buffers.{HeldPacket}
use Rattle.slice_words.specs.FlowMods.{Ground, packet_at}
use Rattle.flow_facts.specs.PacketOuts.{carried_header, is_probe}
use Rattle.slice_words.specs.PacketOuts.{origin_with, sent_out_with, packet_out_on, packet_out_size, packet_out_fault}
use Rattle.slice_words.proofs.Forwarding.{not_large_numbered, out_not_large}
use Rattle.desk_words.specs.declared.event.Event.TheVariants.{SliceMsg}
use Rattle.desk_words.specs.declared.event.Timed.{Timed}
use Rattle.desk_words.specs.Openings.{opening_of}
use Rattle.desk_words.specs.Histories.{is_slot, settings_at, header_in, side_of}
use Rattle.port_turns.proofs.StayBytes.{turn_in_bytes}
use Rattle.slice_words.specs.Items.{message_turned}
use Rattle.desk_words.specs.Sent.{lane_by}
use Rattle.flow_facts.specs.FlowMods.{LiesInFlowspace, NamesOwnPort, StaysWithin}
use Rattle.flow_facts.specs.PacketOuts.{SendsWithin, IsHeaderSent}
use Rattle.flow_facts.specs.Messages.{IsEitherThat, IsReadAsInquiry, IsReadThat}
use Rattle.desk_words.specs.Arrivals.{Arrival, arrival_under, IsBufferHeader}
use Rattle.lane_laws.specs.Lane.{IsOfBytes, switch_number, rules_in}
use Rattle.lane_laws.proofs.Reading.{IsRead, IsReadOut, read_of, read_out_of}
use Rattle.lane_laws.proofs.Marks.{IsProbe-marked}
use Rattle.lane_laws.proofs.Keeping.{IsKept}
use Rattle.lane_laws.proofs.Own.{sent_within, permitted_own, HoldsOfLists}
use Rattle.lane_laws.proofs.Asked.{read_as_question}
use Rattle.lane_laws.proofs.Outs.{list_for, sent_held, sent_probe, sent_carried, out_with, out_holds, packet_holds}
use Rattle.lane_laws.proofs.Ranged.{normal_on, found_under, each_ranged}
use Rattle.lane_laws.proofs.Sent.{kept_all, slot_is, patterns_are, ground_by, flow_mods_by, packet_out_by, list, each_on, lists_hold, actions_hold, out_lies_on, out_outputs_on, leaves}
use Rattle.frame_header.specs.declared.probe.TheConstants.{LLDP}

-- ---- ranges

-- a slot's requests have transaction ids of 32 bits
xid_below : (slot own_slot number slots : ℕ) → own_slot ≡ slot → slot < slots → slots ≤ 32 → physical_of own_slot number < 2 ^ 32
xid_below slot own_slot number slots is known few = omega arith

-- each message fits its length field
each_fits : (ms : List FlowMod) → All (λ bytes. length bytes ≤ 65535) (map spell_flow_mod ms) → All (λ sent. length (spell_flow_mod sent) ≤ 65535) ms
each_fits ms small k d within =
    let long = length-map ms spell_flow_mod in
    subst (λ bytes. length bytes ≤ 65535) (get_or-map spell_flow_mod ms k d (spell_flow_mod d) within) (small k (spell_flow_mod d) (omega arith))

-- what is sent has its piece's transaction id
xid_sent : (m : FlowMod) (xid : ℕ) (piece : Pattern) (actions : List Action) (buffer : ℕ) → (piece_message m xid piece actions buffer).xid ≡ xid
unfolding piece_message
xid_sent m xid piece actions buffer = refl

-- with its transaction id in its range, and where its message fits its length field, it has each field in its range
flow_mod_is : (m : FlowMod) → IsRanged m → m.xid < 2 ^ 32 → length (spell_flow_mod m) ≤ 65535 → IsFlowMod m
flow_mod_is m ranged below small = record { xid = below; ranged = ranged; fits = let size = spell_size m in omega (arith, size, small) }

-- ---- lists of actions

nothing_in : (before later : List Action) (action : Action) → [] ≡ before ++ (action ∷ later) → ⊥
nothing_in [] later action is = cc
nothing_in (first ∷ before) later action is = cc

none_sound : (rules : List Rule) (slot : ℕ) (origin : Origin) → IsSound rules slot origin []
none_sound rules slot origin = record {
  ways = All-nil (HasWay rules slot origin);
  headers = λ h range from before later action port splits sends. absurd (nothing_in before later action splits);
}

-- ---- after a history

abbrev IsWhole : List Rule → ℕ → FlowMod → Type 0
IsWhole rules slot sent = (sent.xid < 2 ^ 32) × (length (spell_flow_mod sent) ≤ 65535) × StaysWithin rules slot sent

abbrev IsWholeOut : List Timed → List Rule → ℕ → PacketOut → Type 0
IsWholeOut h rules slot sent = (sent.xid < 2 ^ 32) × (packet_out_size sent ≤ 65535) × SendsWithin (IsBufferHeader h) rules slot sent

pattern_of : (m : FlowMod) (xid : ℕ) (piece : Pattern) (actions : List Action) (buffer : ℕ) (rules : List Rule) (slot : ℕ) → IsSound rules slot (Piece piece) (piece_message m xid piece actions buffer).actions
    → IsSound rules slot (Piece (piece_message m xid piece actions buffer).pattern) (piece_message m xid piece actions buffer).actions
unfolding piece_message
pattern_of m xid piece actions buffer rules slot sound = sound

module _ (policy : PolicyView) (accepted : IsPolicy policy.slices policy.rules) (normal : AreNormal policy.rules) (slot : ℕ) (h : List Timed) (bytes : All (λ t. IsOfBytes t.event) h) (features : Features) (is : opening_of h ≡ Some features) (here : is_slot policy slot ≡ true) where
  abbrev rules : List Rule
  rules = rules_on features.datapath policy.rules

  abbrev ground : Ground
  ground = ground_by policy slot h (Some features)

  on_switch : IsSwitchPolicy policy.slices rules
  on_switch = IsSwitchPolicy-rules_on policy.slices policy.rules features.datapath accepted

  below : ground.xid < 2 ^ 32
  below = xid_below slot (settings_at policy slot (Some features)).slot _ (length policy.slices) (slot_is policy slot (Some features) _ refl) (ltb-true slot (length policy.slices) here) accepted.proper.few_slices

  -- the list of an origin is sound
  sound_given : (origin : Origin) → IsOrigin origin → (actions : List Action) → All IsAction actions → HoldsOfLists (IsSound rules slot origin) rules slot origin actions
  sound_given origin range actions each = record {
    none = none_sound rules slot origin;
    some = λ flood all given on_flood on_all permits. permitted-IsSound policy.slices rules on_switch slot origin range actions each flood all on_flood on_all given permits;
  }

  whole_on : (m : FlowMod) → IsRead m → All (λ sent. length (spell_flow_mod sent) ≤ 65535) (flow_mods_by policy slot h ground m) → All (IsWhole rules slot) (flow_mods_by policy slot h ground m)
  whole_on m read small =
      let P = λ (sent : FlowMod). length (spell_flow_mod sent) ≤ 65535 → IsWhole rules slot sent in
      let each : All P (flow_mods_by policy slot h ground m) =
      each_on P (side_of policy slot h).sight.came ground m (writes_of rules slot) (patterns_are policy slot (Some features) here)
      (λ k d within buffer carrying fits.
      let piece = get_or (pieces_of rules slot m.pattern) k d in
      let actions = list ground m piece in
      let sent = piece_message m ground.xid piece actions buffer in
      let piece_normal = pieces_of_normal rules slot m.pattern (normal_on policy.rules features.datapath normal) read.pattern k d within in
      let sound = actions_hold (IsSound rules slot (Piece piece)) policy slot h features is here m ground.xid piece buffer (sound_given (Piece piece) piece_normal m.actions read.actions) in
      let own = actions_hold (All (NamesOwnPort rules slot)) policy slot h features is here m ground.xid piece buffer (record {
        none = All-nil (NamesOwnPort rules slot);
        some = λ flood all list_given on_flood on_all permits. permitted_own rules slot piece m.actions flood all list_given on_flood on_all permits;
      }) in
      let lies : LiesInFlowspace rules slot sent = sent_within policy.slices rules on_switch slot m ground.xid piece actions buffer (Owns-pieces_of rules slot m.pattern k d within) in (
        subst (λ n. n < 2 ^ 32) (sym (xid_sent m ground.xid piece actions buffer)) below,
        fits,
        record { lies = lies; outputs = own; leaves = leaves rules slot sent lies; sends = pattern_of m ground.xid piece actions buffer rules slot sound },
      )) in
      λ k d within. each k d within (small k d within)

  -- ---- packet-outs

  sound_for : (m : PacketOut) → IsReadOut m → (header : Header) → IsHeader header → IsSound rules slot (Packet header) (list_for ground m (Packet header))
  sound_for m read header range = lists_hold (IsSound rules slot (Packet header)) policy slot h features is here (Packet header) m.actions (sound_given (Packet header) range m.actions read.actions)

  -- no packet is kept under none
  none_kept : (header : Header) → IsBufferHeader h NO_BUFFER header → ⊥
  none_kept header under = by_arrival (arrival_under NO_BUFFER h) refl under
    where
      by_arrival : (found : Option Arrival) → arrival_under NO_BUFFER h ≡ found → option_map (λ arrival. header_in arrival.packet) found ≡ Some header → ⊥
      by_arrival None at none = none-some header none
      by_arrival (Some arrival) at some = (found_under h bytes NO_BUFFER arrival at).is_number refl

  abbrev Whole : PacketOut → PacketOut → Type 0
  Whole m sent = (sent.xid < 2 ^ 32) × ((is_probe sent ≡ false) → (header : Header) → IsHeader header → IsHeaderSent (IsBufferHeader h) sent header → IsSound rules slot (Packet header) sent.actions)

  held_whole : (m : PacketOut) → IsReadOut m → (packet : HeldPacket) → IsKept policy slot rules h (switch_number policy slot h packet.ordinal) packet → Whole m (sent_held (side_of policy slot h).sight.came ground m packet)
  held_whole m read packet kept =
      let number = switch_number policy slot h packet.ordinal in
      let found = found_under h bytes number kept.arrival kept.is_last in (
        below,
        λ plain header range sends. elim sends [
          | inl under ↦
              let own : IsBufferHeader h number packet.header = ap (option_map (λ arrival. header_in arrival.packet)) kept.is_last ∙ ap (λ (x : Header). Some x) (sym kept.header) in
              let same : packet.header ≡ header = same_Some packet.header header (sym own ∙ under) in
              let sound : IsSound rules slot (Packet packet.header) (list_for ground m (Packet packet.header)) = sound_for m read packet.header (subst IsHeader (sym same) range) in
              subst (λ x. IsSound rules slot (Packet x) (list_for ground m (Packet packet.header))) same sound
          | inr (none, carried) ↦ absurd (found.is_number none)
        ],
      )

  probe_whole : (m : PacketOut) → IsReadOut m → is_probe m ≡ true → Whole m (sent_probe ground m)
  probe_whole m read probe = (
    below,
    λ plain header range sends. absurd (true≢false (sym (eq-eqb (carried_header (sent_probe ground m)).dl_type LLDP ((IsProbe-marked ground.slot m probe).lldp m.in_port)) ∙ plain)),
  )

  carried_whole : (m : PacketOut) → IsReadOut m → Whole m (sent_carried ground m)
  carried_whole m read = (
    below,
    λ plain header range sends. elim sends [
      | inl under ↦ absurd (none_kept header under)
      | inr (none, carried) ↦
          subst (λ x. IsSound rules slot (Packet x) (list_for ground m (Packet (carried_header m)))) (sym carried) (sound_for m read (carried_header m) (subst IsHeader carried range))
    ],
  )

  out_size : (m : PacketOut) (named : Option HeldPacket) → packet_out_size (out_with (side_of policy slot h).sight.came ground m named) ≡ packet_out_size (sent_out_with named ground m (list_for ground m (origin_with named m)))
  out_size m None = refl
  out_size m (Some packet) = refl

  out_whole_on : (m : PacketOut) → IsReadOut m → packet_out_fault ground m ≡ None → IsWholeOut h rules slot (packet_out_by policy slot h ground m)
  out_whole_on m read none =
      let came = (side_of policy slot h).sight.came in
      let whole : Whole m (packet_out_by policy slot h ground m) =
      out_holds (Whole m) came ground m none (record {
        held = λ packet named. held_whole m read packet (packet_holds (λ held. IsKept policy slot rules h (switch_number policy slot h held.ordinal) held) ground m.buffer packet (kept_all policy slot h features is here) named);
        probe = λ comes probe. probe_whole m read probe;
        carried = λ comes probe lies. carried_whole m read;
      }) in
      let small : packet_out_size (packet_out_by policy slot h ground m) ≤ 65535 =
      subst (λ n. n ≤ 65535) (sym (out_size m (packet_at ground m.buffer))) (ltb-false 65535 (packet_out_size (packet_out_on ground m)) (out_not_large ground m none)) in
      (whole.0, small, record { own = out_lies_on policy accepted slot h features is here m none; outputs = out_outputs_on policy slot h features is here m none; sends = whole.1 })

pub each_read : (policy : PolicyView) → IsPolicy policy.slices policy.rules → AreNormal policy.rules → (h : List Timed) (timed : Timed) (slot : ℕ) (message : List ℕ) → All (λ t. IsOfBytes t.event) (timed ∷ h)
    → timed.event ≡ SliceMsg slot message → All (IsReadThat (StaysWithin (rules_in policy h) slot) (SendsWithin (IsBufferHeader h) (rules_in policy h) slot) (rules_in policy h) slot) (lane_by policy h timed)
each_read policy accepted normal h timed slot message all_bytes is =
    let rules = rules_in policy h in
    let earlier = All-tail (λ t. IsOfBytes t.event) timed h all_bytes in
    let bytes : All (λ byte. byte < 256) message = subst IsOfBytes is (All-head (λ t. IsOfBytes t.event) timed h all_bytes) in
    let turned = λ (features : Features). message_turned (settings_at policy slot (Some features)) message in
    let of_turned : (features : Features) → (k : ℕ) → slice_index (turned features) k < 256 = λ features. bytes_of (turned features) (turn_in_bytes (settings_at policy slot (Some features)).swaps message bytes) in
    All-weaker (λ sent. IsEitherThat (IsWhole rules slot) (IsWholeOut h rules slot) sent ⊎ IsReadAsInquiry rules slot sent) (IsReadThat (StaysWithin rules slot) (SendsWithin (IsBufferHeader h) rules slot) rules slot)
    (λ sent whole. elim whole [
      | inl (inl (m, spelled, ranged, (below, small, within))) ↦
          let ranges = flow_mod_is m ranged below small in
          inl (inl (record { kind = subst (IsOf FLOW_MOD) (sym spelled) (flow_mod_of m ranges); flow_mod = m; read = ap read_flow_mod spelled ∙ flow_mod_again m ranges; holds = within }))
      | inl (inr (m, spelled, ranged, (below, small, within))) ↦
          let ranges : IsPacketOut m = record { xid = below; ranged = ranged; fits = small } in
          inl (inr (record { kind = subst (IsOf PACKET_OUT) (sym spelled) (packet_out_of m ranges); packet_out = m; read = ap read_packet_out spelled ∙ packet_out_again m ranges; holds = within }))
      | inr question ↦ inr question
    ])
    (lane_by policy h timed)
    (each_ranged (λ rs. IsWhole rs slot) (λ rs. IsWholeOut h rs slot) (λ rs. IsReadAsInquiry rs slot) policy normal h timed slot message all_bytes is (record {
      flow_mods = λ features opened here m read none.
          let g = ground_by policy slot h (Some features) in
          let ms = flow_mods_by policy slot h g m in
          whole_on policy accepted normal slot h earlier features opened here m (read_of (turned features) m (of_turned features) read)
          (each_fits ms (sizes_within (map spell_flow_mod ms) (not_large_numbered (side_of policy slot h).sight.came g m none)));
      questions = λ features opened here asked question read may.
          read_as_question (ground_by policy slot h (Some features)) (rules_on features.datapath policy.rules) slot (slot_is policy slot (Some features) _ refl) (patterns_are policy slot (Some features) here) (turned features) question asked
          (of_turned features) read may;
      packet_outs = λ features opened here m read none. out_whole_on policy accepted normal slot h earlier features opened here m (read_out_of (turned features) m (of_turned features) read) none;
    }))
