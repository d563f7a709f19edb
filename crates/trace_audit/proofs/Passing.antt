-- What passes keeps the flowspace.
use Rattle.std.proofs.Common.{◌≡◌, ◌⊎◌, inl, inr, ℕ, ◌==◌, ◌&&◌, ◌||◌, not, Bool, true, false, List, All, Option, Some, None, option_map, refl, sym, subst, ◌∙◌, eqb-true, eq-eqb}
use Rattle.std.proofs.lemmas.Bool.{cases_Bool, and_parts, or_cases, cond-true, cond-false, true≢false}
use Rattle.std.proofs.lemmas.List.Elements.{All-weaker}
use Rattle.std.proofs.lemmas.List.Folds.{Any-from_list_any}
use Rattle.of10_model.specs.declared.pattern.Pattern.{Pattern}
use Rattle.of10_model.specs.Header.{Header, IsHeader}
use Rattle.of10_model.specs.Pattern.{Has, has}
use Rattle.of10_model.specs.Inclusion.{includes_of, any_in_port}
use Rattle.of10_model.proofs.Including.{Has-includes}
use Rattle.of10_model.proofs.Membership.{Has-has}
use Rattle.of10_action.specs.declared.action.Action.{Action}
use Rattle.of10_action.specs.declared.action.Action.TheVariants.{Output, SetVlanVid, SetVlanPcp, StripVlan, SetDlSrc, SetDlDst, SetNwSrc, SetNwDst, SetNwTos, SetTpSrc, SetTpDst, Enqueue}
use Rattle.of10_port.specs.declared.protocol.TheConstants.{NONE, CONTROLLER}
use Rattle.of10_flow.specs.declared.protocol.TheConstants.{NO_BUFFER}
use Rattle.of10_flow.specs.declared.flow_mod.FlowMod.{FlowMod}
use Rattle.of10_flow.specs.declared.packet_out.PacketOut.{PacketOut}
use Rattle.of10_flow.specs.Tables.{is_delete}
use Rattle.frame_header.specs.Headers.{header_of_packet}
use Rattle.flowspace.specs.declared.slices.Slice.{Slice}
use Rattle.flowspace.specs.declared.rules.Rule.{Rule}
use Rattle.flowspace.specs.Rules.{IsPlainRule, is_written_by}
use Rattle.flowspace.specs.Policies.{IsSwitchPolicy}
use Rattle.flowspace.specs.Options.{when}
use Rattle.flowspace.specs.Owners.{Writes, Owns, has_port}
use Rattle.flowspace.specs.Places.{covers_match, covers_header}
use Rattle.flowspace.proofs.Owning.{Writes-iff, has_port-iff}
use Rattle.flowspace.proofs.Refusing.{is_value-Some, Some-is_value}
use Rattle.frame_header.specs.Probes.{IsProbe, probe_slot_of}
use Rattle.frame_header.proofs.Probes.{slot-exactly}
use Rattle.action_check.specs.declared.origin.Origin.{Origin}
use Rattle.action_check.specs.declared.origin.Origin.TheVariants.{Piece, Packet, Probe}
use Rattle.action_check.specs.Soundness.{HasWay}
use Rattle.action_check.proofs.Aside.{entry_for}
use Rattle.flow_facts.specs.PacketOuts.{carried_header, MayComeBy, CarriesWritten, SendsToOwnPort, SendsProbeToOwnPort}
use Rattle.flow_facts.specs.FlowMods.{LiesInFlowspace, NamesOwnPort, OutputsToOwnPorts}
use Rattle.lane_laws.proofs.Own.{named, named_out, named_probe}
use Rattle.lane_laws.proofs.Sent.{leaves}
use Rattle.lane_laws.proofs.Outs.{entry_below, has_by}
use Rattle.trace_audit.specs.declared.why.Why.TheVariants as why
use Rattle.trace_audit.specs.Judging.{is_written, is_written_header, action_code, kind_why, space_why, packet_why, buffer_why, action_why, flow_mod_why, is_marked, may_come, carried_space_why, entry_why, carried_origin, carried_why, held_why, packet_out_why}
use Rattle.trace_audit.specs.Facts.{KeepsFlowspace, KeepsPackets}
use Rattle.trace_audit.proofs.Nothing.{when_None, not_false, four_None, three_None, two_None}
use Rattle.trace_audit.proofs.Allowed.{ways_of}

-- ---- what the slice writes

owned : (rs : List Rule) (slot : ℕ) (m : Pattern) → is_written rs slot m ≡ true → Owns rs slot m
owned rs slot m e =
    let some = Any-from_list_any (λ rule. covers_match slot true rule m) rs e in
    let rule = some.1 in
    let parts = and_parts (is_written_by slot rule) (includes_of rule.pattern m) some.4 in
    (some.0, rule, some.2, some.3, (is_value-Some slot rule.writer parts.0, λ h range in_m. Has-includes rule.pattern m parts.1 h in_m))

writes_by : (ss : List Slice) (rs : List Rule) → IsSwitchPolicy ss rs → (slot : ℕ) (h : Header) → is_written_header rs slot true h ≡ true → IsHeader h → Writes rs slot h
writes_by ss rs policy slot h e range =
    let some = Any-from_list_any (λ rule. covers_header slot true rule h) rs e in
    let rule = some.1 in
    let parts = and_parts (is_written_by slot rule) (has rule.pattern h) some.4 in
    (Writes-iff ss rs policy slot h range).1 (some.0, rule, some.2, some.3, (is_value-Some slot rule.writer parts.0, Has-has rule.pattern h parts.1))

-- ---- flow-mods

lies_in : (ss : List Slice) (rs : List Rule) → IsSwitchPolicy ss rs → (slot : ℕ) (m : FlowMod) → space_why rs slot m ≡ None → LiesInFlowspace rs slot m
lies_in ss rs policy slot m e h range in_m =
    let owns = owned rs slot m.pattern (not_false (is_written rs slot m.pattern) (when_None (not (is_written rs slot m.pattern)) why.Space e)) in
    (Writes-iff ss rs policy slot h range).1 (owns.0, owns.1, owns.2, owns.3, (owns.4.0, owns.4.1 h range in_m))

outputs_to : (rs : List Rule) (slot : ℕ) (m : FlowMod) → action_why rs slot m ≡ None → is_delete m ≡ false → OutputsToOwnPorts rs slot m
outputs_to rs slot m e keeps =
    let code = sym (cond-false (is_delete m) None (option_map why.Action (action_code rs slot (Piece m.pattern) m.actions)) keeps) ∙ e in
    All-weaker (HasWay rs slot (Piece m.pattern)) (NamesOwnPort rs slot) (named rs slot m.pattern) m.actions (ways_of rs slot (Piece m.pattern) m.actions code)

held_own : (ss : List Slice) (rs : List Rule) → IsSwitchPolicy ss rs → (slot : ℕ) (m : Pattern) (held : Option Header) → packet_why rs slot m held ≡ None → (h : Header) × (held ≡ Some h) × (IsHeader h → Writes rs slot h) × Has m h
held_own ss rs policy slot m None e = absurd (cc)
held_own ss rs policy slot m (Some h) e =
    let both = not_false (is_written_header rs slot true h && has m h) (when_None (not (is_written_header rs slot true h && has m h)) why.Buffer e) in
    let parts = and_parts (is_written_header rs slot true h) (has m h) both in
    (h, refl, writes_by ss rs policy slot h parts.0, Has-has m h parts.1)

buffer_own : (ss : List Slice) (rs : List Rule) → IsSwitchPolicy ss rs → (held : Option Header) (slot : ℕ) (m : FlowMod) → buffer_why held rs slot m ≡ None
    → (m.buffer ≡ NO_BUFFER) ⊎ ((h : Header) × (held ≡ Some h) × (IsHeader h → Writes rs slot h) × Has m.pattern h)
buffer_own ss rs policy held slot m e =
    elim (cases_Bool (m.buffer == NO_BUFFER)) [
      | inl none ↦ inl (eqb-true m.buffer NO_BUFFER none)
      | inr some ↦ inr (held_own ss rs policy slot m.pattern held (sym (cond-false (m.buffer == NO_BUFFER) None (packet_why rs slot m.pattern held) some) ∙ e))
    ]

pub flow_mod_passed : (ss : List Slice) (rs : List Rule) → IsSwitchPolicy ss rs → (held : Option Header) (slot : ℕ) (m : FlowMod) → flow_mod_why held rs slot m ≡ None → KeepsFlowspace held rs slot m
unfolding flow_mod_why
flow_mod_passed ss rs policy held slot m e =
    let none = four_None (kind_why m) (space_why rs slot m) (buffer_why held rs slot m) (action_why rs slot m) e in
    let lies = lies_in ss rs policy slot m none.1 in
    record {
      lies = lies;
      outputs = outputs_to rs slot m none.3;
      leaves = leaves rs slot m lies;
      buffer = buffer_own ss rs policy held slot m none.2;
    }

-- ---- packet-outs

carries : (ss : List Slice) (rs : List Rule) → IsSwitchPolicy ss rs → (slot : ℕ) (m : PacketOut) → is_written_header rs slot false (carried_header m) ≡ true → CarriesWritten rs slot m
carries ss rs policy slot m e =
    let some = Any-from_list_any (λ rule. covers_header slot false rule (carried_header m)) rs e in
    let rule = some.1 in
    let parts = and_parts (is_written_by slot rule) (has (any_in_port rule.pattern) (carried_header m)) some.4 in
    let entry = entry_for rule.pattern.in_port 0 in
    let plain : IsPlainRule rule = subst IsPlainRule some.3 (policy.proper.plain_rules some.0 rule some.2) in
    let has_rule : Has rule.pattern (header_of_packet entry m.payload) = has_by rule.pattern m.payload m.in_port (Has-has (any_in_port rule.pattern) (carried_header m) parts.1) in (
      entry,
      entry_below rule.pattern.in_port plain.in_port,
      λ range. (Writes-iff ss rs policy slot (header_of_packet entry m.payload) range).1 (some.0, rule, some.2, some.3, (is_value-Some slot rule.writer parts.0, has_rule)),
    )

comes : (rs : List Rule) (slot port : ℕ) → may_come rs slot port ≡ true → MayComeBy rs slot port
comes rs slot port e =
    elim (or_cases (has_port rs slot port || port == NONE) (port == CONTROLLER) e) [
      | inr controller ↦ inr (inr (eqb-true port CONTROLLER controller))
      | inl either ↦
          elim (or_cases (has_port rs slot port) (port == NONE) either) [
            | inl own ↦ inl ((has_port-iff rs slot port).0 own)
            | inr none ↦ inr (inl (eqb-true port NONE none))
          ]
    ]

-- an unmarked one carries a packet that the slice writes
unmarked : (marked written : Bool) → (not marked && not written) ≡ false → marked ≡ false → written ≡ true
unmarked true written e isnt = absurd (cc)
unmarked false true e isnt = refl
unmarked false false e isnt = absurd (cc)

carried_own : (ss : List Slice) (rs : List Rule) → IsSwitchPolicy ss rs → (slot : ℕ) (m : PacketOut) → carried_space_why rs slot m ≡ None → CarriesWritten rs slot m ⊎ IsProbe m.payload slot
carried_own ss rs policy slot m e =
    elim (cases_Bool (is_marked slot m)) [
      | inl marked ↦ inr ((slot-exactly m.payload slot).0 (is_value-Some slot (probe_slot_of m.payload) marked))
      | inr isnt ↦ inl (carries ss rs policy slot m (unmarked (is_marked slot m) (is_written_header rs slot false (carried_header m)) (when_None (not (is_marked slot m) && not (is_written_header rs slot false (carried_header m))) why.Space e) isnt))
    ]

-- by the origin of what it sends
abbrev Sends : List Rule → ℕ → List Action → Origin → Type 0
Sends rs slot actions origin = All (HasWay rs slot origin) actions

probe_ways : (rs : List Rule) (slot : ℕ) (m : PacketOut) → Sends rs slot m.actions (carried_origin slot m) → is_marked slot m ≡ true → Sends rs slot m.actions (Probe m.in_port)
probe_ways rs slot m ways marked = subst (λ (o : Origin). All (HasWay rs slot o) m.actions) (cond-true (is_marked slot m) (Probe m.in_port) (Packet (carried_header m)) marked) ways

packet_ways : (rs : List Rule) (slot : ℕ) (m : PacketOut) → Sends rs slot m.actions (carried_origin slot m) → is_marked slot m ≡ false → Sends rs slot m.actions (Packet (carried_header m))
packet_ways rs slot m ways isnt = subst (λ (o : Origin). All (HasWay rs slot o) m.actions) (cond-false (is_marked slot m) (Probe m.in_port) (Packet (carried_header m)) isnt) ways

carried_passed : (ss : List Slice) (rs : List Rule) → IsSwitchPolicy ss rs → (held : Option Header) (slot : ℕ) (m : PacketOut) → m.buffer ≡ NO_BUFFER → carried_why rs slot m ≡ None → KeepsPackets held rs slot m
carried_passed ss rs policy held slot m none e =
    let each = three_None (carried_space_why rs slot m) (entry_why rs slot m) (option_map why.Action (action_code rs slot (carried_origin slot m) m.actions)) e in
    let come = comes rs slot m.in_port (not_false (may_come rs slot m.in_port) (when_None (not (may_come rs slot m.in_port)) why.Space each.1)) in
    let ways = ways_of rs slot (carried_origin slot m) m.actions each.2 in
    record {
      own = inr (none, come, carried_own ss rs policy slot m each.0);
      outputs = elim (cases_Bool (is_marked slot m)) [
        | inl marked ↦ All-weaker (HasWay rs slot (Probe m.in_port)) (SendsToOwnPort rs slot) (λ action way. (named_probe rs slot m.in_port action way).0) m.actions (probe_ways rs slot m ways marked)
        | inr isnt ↦ All-weaker (HasWay rs slot (Packet (carried_header m))) (SendsToOwnPort rs slot) (named_out rs slot (carried_header m)) m.actions (packet_ways rs slot m ways isnt)
      ];
      probes = λ _ probe.
          let marked = Some-is_value slot (probe_slot_of m.payload) ((slot-exactly m.payload slot).1 probe) in
          All-weaker (HasWay rs slot (Probe m.in_port)) (SendsProbeToOwnPort rs slot) (λ action way. (named_probe rs slot m.in_port action way).1) m.actions (probe_ways rs slot m ways marked);
    }

held_passed : (ss : List Slice) (rs : List Rule) → IsSwitchPolicy ss rs → (held : Option Header) (slot : ℕ) (m : PacketOut) → (m.buffer ≡ NO_BUFFER → ⊥) → held_why rs slot m held ≡ None → KeepsPackets held rs slot m
held_passed ss rs policy None slot m some e = absurd (cc)
held_passed ss rs policy (Some h) slot m some e =
    let each = two_None (when (not (is_written_header rs slot true h)) why.Buffer) (option_map why.Action (action_code rs slot (Packet h) m.actions)) e in
    let written = not_false (is_written_header rs slot true h) (when_None (not (is_written_header rs slot true h)) why.Buffer each.0) in
    record {
      own = inl (h, refl, writes_by ss rs policy slot h written);
      outputs = All-weaker (HasWay rs slot (Packet h)) (SendsToOwnPort rs slot) (named_out rs slot h) m.actions (ways_of rs slot (Packet h) m.actions each.1);
      probes = λ none marked. absurd (some none);
    }

pub packet_out_passed : (ss : List Slice) (rs : List Rule) → IsSwitchPolicy ss rs → (held : Option Header) (slot : ℕ) (m : PacketOut) → packet_out_why held rs slot m ≡ None → KeepsPackets held rs slot m
unfolding packet_out_why
packet_out_passed ss rs policy held slot m e =
    elim (cases_Bool (m.buffer == NO_BUFFER)) [
      | inl none ↦ carried_passed ss rs policy held slot m (eqb-true m.buffer NO_BUFFER none) (sym (cond-true (m.buffer == NO_BUFFER) (carried_why rs slot m) (held_why rs slot m held) none) ∙ e)
      | inr some ↦
          held_passed ss rs policy held slot m (λ none. true≢false (sym (eq-eqb m.buffer NO_BUFFER none) ∙ some))
          (sym (cond-false (m.buffer == NO_BUFFER) (carried_why rs slot m) (held_why rs slot m held) some) ∙ e)
    ]
