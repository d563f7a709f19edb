-- The same of what follows from a slice's message by the slice's state, whatever that stands for.
use Rattle.std.proofs.Common.{◌≡◌, refl, sym, ◌∙◌, ap, subst, ℕ, ◌+◌, ◌<◌, ◌==◌, ◌&&◌, inl, inr, Bool, true, false, true≢false, if◌then◌else◌, List, [], length, get_or, All, Option, Some, None, Ok, option_map, is_some, ◌^◌, arith}
use Rattle.std.proofs.lemmas.Bool.{and_parts}
use Rattle.std.proofs.lemmas.Option.{same_Some}
use Rattle.std.proofs.lemmas.List.{get_or_default}
use Rattle.std.proofs.lemmas.List.Elements.{All-nil, All-cons, All-map, All-weaker}
use Rattle.of10_model.specs.declared.pattern.Pattern.{Pattern}
use Rattle.of10_model.specs.Header.{Header}
use Rattle.of10_model.proofs.Results.{either}
use Rattle.of10_action.specs.declared.action.Action.{Action}
use Rattle.of10_action.specs.Actions.{IsAction}
use Rattle.of10_action.specs.Reading.{list_given}
use Rattle.of10_message.specs.declared.controller.FromController.TheVariants as said
use Rattle.of10_message.specs.Controller.{read_controller}
use Rattle.of10_flow.specs.declared.flow_mod.FlowMod.{FlowMod}
use Rattle.of10_flow.specs.declared.packet_out.PacketOut.{PacketOut}
use Rattle.of10_flow.specs.declared.protocol.TheConstants.{NO_BUFFER}
use Rattle.of10_flow.specs.FlowMods.{IsRanged, spell_flow_mod}
use Rattle.of10_flow.specs.PacketOuts.{IsRangedOut, spell_packet_out}
use Rattle.of10_flow.specs.Tables.{is_delete}
use Rattle.frame_header.specs.Headers.{header_of_packet}
use Rattle.frame_header.specs.declared.probe.TheConstants.{LLDP}
use Rattle.flowspace.specs.declared.slices.Slice.{Slice}
use Rattle.flowspace.specs.declared.rules.Rule.{Rule}
use Rattle.flowspace.specs.Policies.{PolicyView, SwitchView, IsSwitchPolicy, AreNormal}
use Rattle.flowspace.specs.Owners.{Writes}
use Rattle.buffer_map.specs.declared.held.Held.{Held}
use Rattle.buffer_map.specs.Buffers.{numbered, held_under}
use Rattle.flow_book.specs.declared.state.SliceState.{SliceState}
use Rattle.port_view.specs.SlicePorts.{ports_of_slice, flooded}
use Rattle.flowmod_expand.specs.Pieces.{writes_of}
use Rattle.flowmod_expand.specs.Messages.{buffer_at, piece_message}
use Rattle.flowmod_expand.proofs.Space.{Owns-pieces_of, pieces_of_normal}
use Rattle.action_check.specs.declared.origin.Origin.{Origin}
use Rattle.action_check.specs.declared.origin.Origin.TheVariants as origins
use Rattle.action_check.specs.Permitted.{permitted}
use Rattle.action_check.specs.Soundness.{HasWay}
use Rattle.recording.proofs.Untold.{bytes_of}
use Rattle.flowspace.specs.Swaps.{pairs_of}
use Rattle.port_turns.specs.Readings.{turn_in, read_turned}
use Rattle.port_turns.proofs.StayBytes.{turn_in_bytes}
use Rattle.slice_words.specs.Items.{lone_rules}
use Rattle.slice_words.specs.Buffers.{HeldPacket, held_packets}
use Rattle.slice_words.specs.FlowMods.{Ground, pieces_on, packet_at, permitted_on, piece_place}
use Rattle.flow_facts.specs.PacketOuts.{carried_header, is_probe}
use Rattle.slice_words.specs.PacketOuts.{origin_with, sent_out_with, packet_out_fault}
use Rattle.slice_words.specs.Standing.{SliceStands, past_of, held_as}
use Rattle.slice_words.proofs.Holding.{found_holds}
use Rattle.slice_side.specs.Reactions.{without_physical, ground_at}
use Rattle.slice_side.specs.Checking.{packet_kept, held_for, carrier_in, number_in, flow_mods_from, packet_out_from, IsSentOn, AreSentOn}
use Rattle.slice_side.proofs.Packets.{kept_packet}
use Rattle.desk_words.specs.declared.event.Timed.{Timed}
use Rattle.desk_words.specs.Histories.{side_of, view_of}
use Rattle.flow_facts.specs.FlowMods.{LiesInFlowspace, NamesOwnPort, OutputsToOwnPorts, LeavesOtherHeaders}
use Rattle.flow_facts.specs.PacketOuts.{SendsOwnPacket, SendsToOwnPort, SendsProbeToOwnPort, SendsToOwnPorts, ChangesNoTable}
use Rattle.flow_facts.specs.Messages.{IsSentThat}
use Rattle.lane_laws.specs.Lane.{KeepsWritten, KeepsRanged, IsKeptHeader, rules_in, settings_in}
use Rattle.lane_laws.proofs.Marks.{IsProbe-marked}
use Rattle.lane_laws.proofs.Asked.{asks_for_reply}
use Rattle.lane_laws.proofs.Own.{each_sent, sent_within, permitted_own, permitted_ways, given_holds, sent_holds, named_out, named_probe}
use Rattle.lane_laws.proofs.Outs.{list_for, out_with, HoldsOfOuts, out_holds, came_in, carries_written, not_lldp}
use Rattle.lane_laws.proofs.Reading.{IsRead, IsReadOut, read_of, read_out_of}
use Rattle.lane_laws.proofs.Sent.{list, leaves, held_are_written}
use Rattle.lane_laws.proofs.Ranged.{ranged_sent, given_ranged}

module _ (rules : List Rule) (slot : ℕ) (known : List (List ℕ)) (state : SliceState) (quota xid : ℕ) where
  abbrev ground : Ground
  ground = ground_at rules slot known quota xid state

  -- what holds of all that a slice may have sent by a message
  pub record HoldsOfAll (P : FlowMod → Type 0) (Q : PacketOut → Type 0) (message : List ℕ) : Type 0 where
    pub flow_mods : (m : FlowMod) → read_controller message ≡ Ok (said.FlowMod m) → All P (flow_mods_from state ground m)
    pub packet_outs : (m : PacketOut) → read_controller message ≡ Ok (said.PacketOut m) → packet_out_fault ground m ≡ None → Q (packet_out_from state ground m)

  -- holds of what is sent on, with its fields in their ranges
  all_sent : (P : FlowMod → Type 0) (Q : PacketOut → Type 0) (message : List ℕ) → HoldsOfAll IsRanged IsRangedOut message → HoldsOfAll P Q message → (sent : List (List ℕ)) → IsSentOn state ground (read_controller message) sent
      → All (IsSentThat P Q) sent
  all_sent P Q message ranges holds sent (inl none) = subst (All (IsSentThat P Q)) (sym none) (All-nil (IsSentThat P Q))
  all_sent P Q message ranges holds sent (inr (inl some)) =
      let ms = flow_mods_from state ground some.0 in
      let both : All (λ one. IsRanged one × P one) ms = λ k d within. (ranges.flow_mods some.0 some.1 k d within, holds.flow_mods some.0 some.1 k d within) in
      subst (All (IsSentThat P Q)) (sym some.3)
      (All-map (IsSentThat P Q) spell_flow_mod ms
      (All-weaker (λ one. IsRanged one × P one) (λ one. IsSentThat P Q (spell_flow_mod one)) (λ one own. inl (inl (one, refl, own.0, own.1))) ms both))
  all_sent P Q message ranges holds sent (inr (inr (inl some))) =
      let out = packet_out_from state ground some.0 in
      subst (All (IsSentThat P Q)) (sym some.3)
      (All-cons (IsSentThat P Q) (spell_packet_out out) []
      (inl (inr (out, refl, ranges.packet_outs some.0 some.1 some.2, holds.packet_outs some.0 some.1 some.2))) (All-nil (IsSentThat P Q)))
  all_sent P Q message ranges holds sent (inr (inr (inr some))) =
      subst (All (IsSentThat P Q)) (sym some.4)
      (All-cons (IsSentThat P Q) some.1 [] (inr (asks_for_reply ground message some.1 some.0 some.2 some.3)) (All-nil (IsSentThat P Q)))

  -- ---- flow-mods

  -- what holds of the flow-mod of each piece, whatever number it carries, holds of all
  each_from : (P : FlowMod → Type 0) (m : FlowMod)
      → ((k : ℕ) (d : Pattern) → k < length (pieces_on ground m) → (buffer : ℕ) → P (piece_message m xid (get_or (pieces_on ground m) k d) (list ground m (get_or (pieces_on ground m) k d)) buffer))
      → All P (flow_mods_from state ground m)
  each_from P m each =
      let carrier = carrier_in (held_for state m) (pieces_on ground m) in
      each_sent P m xid (list ground m) carrier 0 (pieces_on ground m) (λ k d within. each k d within (buffer_at carrier (0 + k)))

  lies_from : (slices : List Slice) → IsSwitchPolicy slices rules → (m : FlowMod) → All (LiesInFlowspace rules slot) (flow_mods_from state ground m)
  lies_from slices accepted m =
      each_from (LiesInFlowspace rules slot) m
      (λ k d within buffer.
      let piece = get_or (pieces_on ground m) k d in
      sent_within slices rules accepted slot m xid piece (list ground m piece) buffer (Owns-pieces_of rules slot m.pattern k d within))

  outputs_from : (m : FlowMod) → All (OutputsToOwnPorts rules slot) (flow_mods_from state ground m)
  outputs_from m =
      let P = All (NamesOwnPort rules slot) in
      let none = All-nil (NamesOwnPort rules slot) in
      each_from (OutputsToOwnPorts rules slot) m
      (λ k d within buffer.
      let piece = get_or (pieces_on ground m) k d in
      sent_holds P m xid piece (list ground m piece) buffer none
      (either P (is_delete m) [] (list_given (permitted_on ground m piece)) none
      (given_holds P rules slot slot (writes_of rules slot) (ports_of_slice rules slot known) known (origins.Piece piece) m.actions refl refl refl (record {
        none = none;
        some = λ flood all given on_flood on_all permits. permitted_own rules slot piece m.actions flood all given on_flood on_all permits;
      }))))

  -- ---- ranges

  -- a packet that is found is one that the state holds
  found_in : (P : Held → Type 0) (none : Bool) (buffer : ℕ) (held : List Held) (packet : Held) → All P held → (if none then None else held_under buffer held) ≡ Some packet → P packet
  found_in P true buffer held packet all is = absurd (true≢false (sym (ap is_some is)))
  found_in P false buffer held packet all is = (found_holds P (numbered buffer) held packet all is).0

  -- the number of a packet that the state holds has 32 bits, and what it came by 16
  abbrev HasRanges : Held → Type 0
  HasRanges packet = (packet.physical < 2 ^ 32) × (packet.header.in_port < 2 ^ 16)

  number_below : (found : Option Held) → ((packet : Held) → found ≡ Some packet → packet.physical < 2 ^ 32) → number_in found < 2 ^ 32
  number_below None each = omega arith
  number_below (Some packet) each = each packet refl

  -- so has the number that a flow-mod carries
  carried_below : (here : Bool) (number : ℕ) → number < 2 ^ 32 → (if here then number else NO_BUFFER) < 2 ^ 32
  carried_below true number below = below
  carried_below false number below = omega arith

  placed_below : (packet : Held) (place : Option ℕ) (k : ℕ) → packet.physical < 2 ^ 32 → buffer_at (option_map (λ first. (first, packet.physical)) place) k < 2 ^ 32
  placed_below packet None k below = omega arith
  placed_below packet (Some place) k below = carried_below (place == k) packet.physical below

  buffer_below : (found : Option Held) (pieces : List Pattern) (k : ℕ) → ((packet : Held) → found ≡ Some packet → packet.physical < 2 ^ 32) → buffer_at (carrier_in found pieces) k < 2 ^ 32
  buffer_below None pieces k each = omega arith
  buffer_below (Some packet) pieces k each = placed_below packet (piece_place packet.header pieces) k (each packet refl)

  -- a packet that a flow-mod names is one that the state holds
  named_in : (deletes : Bool) (buffer : ℕ) (packet : Held) → KeepsRanged state → (if deletes then None else packet_kept state buffer) ≡ Some packet → HasRanges packet
  named_in true buffer packet without_physical is = absurd (true≢false (sym (ap is_some is)))
  named_in false buffer packet without_physical is = found_in HasRanges (buffer == NO_BUFFER) buffer state.buffers.held packet without_physical is

  -- the list of an origin has each field in its range
  list_ranged : (origin : Origin) (actions : List Action) → All IsAction actions → All IsAction (list_given (permitted (lone_rules slot (writes_of rules slot)) slot origin actions (flooded false (ports_of_slice rules slot known)) (flooded true (ports_of_slice rules slot known))))
  list_ranged origin actions each = given_holds (All IsAction) rules slot slot (writes_of rules slot) (ports_of_slice rules slot known) known origin actions refl refl refl (given_ranged rules slot origin actions each)

  ranged_from : AreNormal rules → KeepsRanged state → (m : FlowMod) → IsRead m → All IsRanged (flow_mods_from state ground m)
  ranged_from normal without_physical m read =
      let named = held_for state m in
      each_sent IsRanged m xid (list ground m) (carrier_in named (pieces_on ground m)) 0 (pieces_on ground m)
      (λ k d within.
      let piece = get_or (pieces_on ground m) k d in
      let buffer = buffer_at (carrier_in named (pieces_on ground m)) (0 + k) in
      let none = All-nil IsAction in
      ranged_sent m xid piece (list ground m piece) buffer read (pieces_of_normal rules slot m.pattern normal read.pattern k d within)
      (buffer_below named (pieces_on ground m) (0 + k) (λ packet is. (named_in (is_delete m) m.buffer packet without_physical is).0))
      (sent_holds (All IsAction) m xid piece (list ground m piece) buffer none
      (either (All IsAction) (is_delete m) [] (list_given (permitted_on ground m piece)) none (list_ranged (origins.Piece piece) m.actions read.actions))))

  -- ---- packet-outs

  ways_from : (m : PacketOut) (origin : Origin) → All (HasWay rules slot origin) (list_for ground m origin)
  ways_from m origin =
      given_holds (All (HasWay rules slot origin)) rules slot slot (writes_of rules slot) (ports_of_slice rules slot known) known origin m.actions refl refl refl (record {
        none = All-nil (HasWay rules slot origin);
        some = λ flood all given on_flood on_all permits. permitted_ways rules slot origin m.actions flood all given on_flood on_all permits;
      })

  -- the number that it carries
  abbrev number : PacketOut → ℕ
  number m = number_in (packet_kept state m.buffer)

  no_number : (m : PacketOut) → m.buffer ≡ NO_BUFFER → number m ≡ NO_BUFFER
  no_number m is = ap (λ (buffer : ℕ). number_in (packet_kept state buffer)) is

  numbered_out : (m : PacketOut) (named : Option HeldPacket)
      → record (out_with [] ground m named) { buffer = number m } ≡ record (sent_out_with named ground m (list_for ground m (origin_with named m))) { buffer = number m }
  numbered_out m None = refl
  numbered_out m (Some packet) = refl

  -- what holds in each of the three ways, with this number, holds of what is sent
  out_from : (Q : PacketOut → Type 0) (m : PacketOut) → packet_out_fault ground m ≡ None → HoldsOfOuts (λ (out : PacketOut). Q (record out { buffer = number m })) [] ground m → Q (packet_out_from state ground m)
  out_from Q m none holds =
      subst Q (numbered_out m (packet_at ground m.buffer)) (out_holds (λ (out : PacketOut). Q (record out { buffer = number m })) [] ground m none holds)

  -- it is there under its number, with its header
  all_kept : All (λ (packet : Held). IsKeptHeader state packet.physical packet.header) state.buffers.held
  all_kept = λ k d within.
      let packet = get_or state.buffers.held k d in
      (k, packet, within, get_or_default state.buffers.held k packet d within, (refl, refl))

  port_below : KeepsRanged state → (m : PacketOut) (packet : HeldPacket) (found : Option Held) → packet_kept state m.buffer ≡ found → option_map without_physical found ≡ Some packet → packet.header.in_port < 2 ^ 16
  port_below ranged m packet None is named = absurd (true≢false (sym (ap is_some named)))
  port_below ranged m packet (Some held) is named = subst (λ (other : HeldPacket). other.header.in_port < 2 ^ 16) (same_Some (without_physical held) packet named) (named_in false m.buffer held ranged is).1

  ranged_out_from : KeepsRanged state → (m : PacketOut) → IsReadOut m → packet_out_fault ground m ≡ None → IsRangedOut (packet_out_from state ground m)
  ranged_out_from ranged m read none =
      let below = number_below (packet_kept state m.buffer) (λ packet is. (named_in false m.buffer packet ranged is).0) in
      out_from IsRangedOut m none (record {
        held = λ packet is. record {
          buffer = below;
          in_port = port_below ranged m packet (packet_kept state m.buffer) refl (kept_packet state ground m.buffer refl ∙ is);
          actions = list_ranged (origins.Packet packet.header) m.actions read.actions;
        };
        probe = λ comes is. record { buffer = below; in_port = read.in_port; actions = list_ranged (origins.Probe m.in_port) m.actions read.actions };
        carried = λ comes is lies. record { buffer = below; in_port = read.in_port; actions = list_ranged (origins.Packet (carried_header m)) m.actions read.actions };
      })

  all_ranged : AreNormal rules → KeepsRanged state → (message : List ℕ) → All (λ byte. byte < 256) message → HoldsOfAll IsRanged IsRangedOut message
  all_ranged normal ranged message bytes = record {
    flow_mods = λ m read. ranged_from normal ranged m (read_of message m (bytes_of message bytes) read);
    packet_outs = λ m read none. ranged_out_from ranged m (read_out_of message m (bytes_of message bytes) read) none;
  }

  own_held : KeepsWritten rules slot state → (m : PacketOut) (packet : HeldPacket) (found : Option Held) → packet_kept state m.buffer ≡ found → option_map without_physical found ≡ Some packet
      → (h : Header) × IsKeptHeader state (number_in found) h × Writes rules slot h
  own_held written m packet None is named = absurd (true≢false (sym (ap is_some named)))
  own_held written m packet (Some held) is named = (
    held.header,
    found_in (λ (other : Held). IsKeptHeader state other.physical other.header) (m.buffer == NO_BUFFER) m.buffer state.buffers.held held all_kept is,
    found_in (λ (other : Held). Writes rules slot other.header) (m.buffer == NO_BUFFER) m.buffer state.buffers.held held written is,
  )

  out_lies_from : (slices : List Slice) → IsSwitchPolicy slices rules → KeepsWritten rules slot state → (m : PacketOut) → packet_out_fault ground m ≡ None
      → SendsOwnPacket (IsKeptHeader state) rules slot (packet_out_from state ground m)
  out_lies_from slices accepted written m none =
      out_from (SendsOwnPacket (IsKeptHeader state) rules slot) m none (record {
        held = λ packet is. inl (own_held written m packet (packet_kept state m.buffer) refl (kept_packet state ground m.buffer refl ∙ is));
        probe = λ comes is. inr (no_number m comes.0, came_in ground rules slot m.in_port refl refl comes.1, inr (IsProbe-marked slot m is));
        carried = λ comes is lies. inr (no_number m comes.0, came_in ground rules slot m.in_port refl refl comes.1, inl (carries_written slices rules accepted ground slot m refl lies));
      })

  -- what it carries is no probe if the slice's message wasn't
  same_probe_from : (m : PacketOut) → m.buffer ≡ NO_BUFFER → (number m == NO_BUFFER && (carried_header m).dl_type == LLDP) ≡ is_probe m
  same_probe_from m is = ap (λ (n : ℕ). n == NO_BUFFER && (carried_header m).dl_type == LLDP) (no_number m is ∙ sym is)

  out_outputs_from : (m : PacketOut) → packet_out_fault ground m ≡ None → SendsToOwnPorts rules slot (packet_out_from state ground m)
  out_outputs_from m none =
      out_from (SendsToOwnPorts rules slot) m none (record {
        held = λ packet is. (
          All-weaker (HasWay rules slot (origins.Packet packet.header)) (SendsToOwnPort rules slot) (named_out rules slot packet.header) (list_for ground m (origins.Packet packet.header)) (ways_from m (origins.Packet packet.header)),
          λ probe. absurd (true≢false (sym (and_parts (number m == NO_BUFFER) ((header_of_packet packet.header.in_port []).dl_type == LLDP) probe).1 ∙ not_lldp packet.header.in_port)),
        );
        probe = λ comes is.
            let way = ways_from m (origins.Probe m.in_port) in (
              All-weaker (HasWay rules slot (origins.Probe m.in_port)) (SendsToOwnPort rules slot) (λ action has. (named_probe rules slot m.in_port action has).0) (list_for ground m (origins.Probe m.in_port)) way,
              λ probe. All-weaker (HasWay rules slot (origins.Probe m.in_port)) (SendsProbeToOwnPort rules slot) (λ action has. (named_probe rules slot m.in_port action has).1) (list_for ground m (origins.Probe m.in_port)) way,
            );
        carried = λ comes is lies. (
          All-weaker (HasWay rules slot (origins.Packet (carried_header m))) (SendsToOwnPort rules slot) (named_out rules slot (carried_header m)) (list_for ground m (origins.Packet (carried_header m))) (ways_from m (origins.Packet (carried_header m))),
          λ probe. absurd (true≢false (sym probe ∙ same_probe_from m comes.0 ∙ is)),
        );
      })

pub reaction_lies : (policy : SwitchView) (known : List (List ℕ)) (state : SliceState) (slot : ℕ) (message : List ℕ) (sent : List (List ℕ)) → IsSwitchPolicy policy.slices policy.rules → KeepsWritten policy.rules slot state
    → AreNormal policy.rules → KeepsRanged state → All (λ byte. byte < 256) message → AreSentOn policy.rules slot known state (read_turned (pairs_of policy.swaps slot) message) sent
    → All (IsSentThat (LiesInFlowspace policy.rules slot) (SendsOwnPacket (IsKeptHeader state) policy.rules slot)) sent
reaction_lies policy known state slot message sent accepted written normal ranged bytes is =
    all_sent policy.rules slot known state is.0 is.1 (LiesInFlowspace policy.rules slot) (SendsOwnPacket (IsKeptHeader state) policy.rules slot) (turn_in (pairs_of policy.swaps slot) message)
    (all_ranged policy.rules slot known state is.0 is.1 normal ranged (turn_in (pairs_of policy.swaps slot) message) (turn_in_bytes (pairs_of policy.swaps slot) message bytes)) (record {
      flow_mods = λ m read. lies_from policy.rules slot known state is.0 is.1 policy.slices accepted m;
      packet_outs = λ m read none. out_lies_from policy.rules slot known state is.0 is.1 policy.slices accepted written m none;
    }) sent is.2

pub reaction_outputs : (policy : SwitchView) (known : List (List ℕ)) (state : SliceState) (slot : ℕ) (message : List ℕ) (sent : List (List ℕ))
    → AreNormal policy.rules → KeepsRanged state → All (λ byte. byte < 256) message → AreSentOn policy.rules slot known state (read_turned (pairs_of policy.swaps slot) message) sent
    → All (IsSentThat (OutputsToOwnPorts policy.rules slot) (SendsToOwnPorts policy.rules slot)) sent
reaction_outputs policy known state slot message sent normal ranged bytes is =
    all_sent policy.rules slot known state is.0 is.1 (OutputsToOwnPorts policy.rules slot) (SendsToOwnPorts policy.rules slot) (turn_in (pairs_of policy.swaps slot) message)
    (all_ranged policy.rules slot known state is.0 is.1 normal ranged (turn_in (pairs_of policy.swaps slot) message) (turn_in_bytes (pairs_of policy.swaps slot) message bytes)) (record {
      flow_mods = λ m read. outputs_from policy.rules slot known state is.0 is.1 m;
      packet_outs = λ m read none. out_outputs_from policy.rules slot known state is.0 is.1 m none;
    }) sent is.2

pub reaction_leaves : (policy : SwitchView) (known : List (List ℕ)) (state : SliceState) (slot : ℕ) (message : List ℕ) (sent : List (List ℕ))
    → IsSwitchPolicy policy.slices policy.rules → AreNormal policy.rules → KeepsRanged state → All (λ byte. byte < 256) message → AreSentOn policy.rules slot known state (read_turned (pairs_of policy.swaps slot) message) sent
    → All (IsSentThat (LeavesOtherHeaders policy.rules slot) ChangesNoTable) sent
reaction_leaves policy known state slot message sent accepted normal ranged bytes is =
    all_sent policy.rules slot known state is.0 is.1 (LeavesOtherHeaders policy.rules slot) ChangesNoTable (turn_in (pairs_of policy.swaps slot) message)
    (all_ranged policy.rules slot known state is.0 is.1 normal ranged (turn_in (pairs_of policy.swaps slot) message) (turn_in_bytes (pairs_of policy.swaps slot) message bytes)) (record {
      flow_mods = λ m read.
          All-weaker (LiesInFlowspace policy.rules slot) (LeavesOtherHeaders policy.rules slot) (λ one lies. leaves policy.rules slot one lies)
          (flow_mods_from state (ground_at policy.rules slot known is.0 is.1 state) m) (lies_from policy.rules slot known state is.0 is.1 policy.slices accepted m);
      packet_outs = λ m read none. tt;
    }) sent is.2

-- ---- states of histories

pub kept_are_written : (policy : PolicyView) (h : List Timed) (slot : ℕ) (state : SliceState) → SliceStands (settings_in policy slot h) (side_of policy slot h).sight state → KeepsWritten (rules_in policy h) slot state
kept_are_written policy h slot state stands =
    let IsWritten = λ (packet : Held). Writes (rules_in policy h) slot packet.header in
    subst (All IsWritten) (sym stands.held)
    (All-map IsWritten (held_as (side_of policy slot h).sight.came) (held_packets (past_of (settings_in policy slot h) (view_of policy slot h))) (held_are_written policy h slot))
