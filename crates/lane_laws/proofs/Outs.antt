-- A packet-out that no line refuses is sent in one of three ways: for a packet that the slice holds, for a probe, and for a packet that it carries.
use Rattle.std.proofs.Common.{◌≡◌, refl, sym, ap, ◌∙◌, subst, ℕ, ◌<◌, ◌^◌, ◌==◌, ◌&&◌, ◌||◌, inl, inr, not, Bool, true, false, true≢false, eqb-true, if◌then◌else◌, List, [], ◌∷◌, ◌%◌, All, Option, Some, None, IfSome, is_none, arith}
use Rattle.std.specs.List.{list_any}
use Rattle.std.proofs.lemmas.Bool.{and_parts, or_cases}
use Rattle.std.proofs.lemmas.List.Elements.{All-weaker}
use Rattle.std.proofs.lemmas.List.Folds.{Any-from_list_any}
use Rattle.of10_model.specs.declared.pattern.Pattern.{Pattern}
use Rattle.of10_model.specs.Header.{Header}
use Rattle.of10_model.specs.Pattern.{Has, has}
use Rattle.of10_model.specs.Inclusion.{any_in_port}
use Rattle.of10_model.proofs.Membership.{Has-has}
use Rattle.of10_action.specs.declared.action.Action.{Action}
use Rattle.of10_action.specs.Reading.{list_given}
use Rattle.of10_port.specs.declared.protocol.TheConstants.{NONE, CONTROLLER}
use Rattle.of10_flow.specs.declared.protocol.TheConstants.{NO_BUFFER}
use Rattle.of10_flow.specs.declared.packet_out.PacketOut.{PacketOut}
use Rattle.frame_header.specs.Links.{link_of}
use Rattle.frame_header.specs.Headers.{header_of_packet}
use Rattle.frame_header.specs.Probes.{IsProbe}
use Rattle.frame_header.specs.declared.probe.TheConstants.{LLDP}
use Rattle.flowspace.specs.declared.slices.Slice.{Slice}
use Rattle.flowspace.specs.declared.rules.Rule.{Rule}
use Rattle.flowspace.specs.Rules.{IsInPort, IsPlainRule}
use Rattle.flowspace.specs.Policies.{IsSwitchPolicy}
use Rattle.flowspace.specs.Owners.{Writes}
use Rattle.flowspace.proofs.Along.{option_or-None}
use Rattle.flowspace.proofs.Owning.{Writes-iff, has_port-iff}
use Rattle.port_view.specs.SlicePorts.{flooded}
use Rattle.flowmod_expand.specs.Pieces.{writes_of}
use Rattle.flowmod_expand.proofs.Space.{Any-writes_of}
use Rattle.action_check.specs.declared.origin.Origin.{Origin}
use Rattle.action_check.specs.declared.origin.Origin.TheVariants as origins
use Rattle.action_check.specs.Permitted.{permitted}
use Rattle.action_check.specs.Soundness.{HasWay}
use Rattle.action_check.proofs.Aside.{entry_for, Has-entry}
use Rattle.slice_words.specs.Items.{lone_rules, is_own_port}
use Rattle.slice_words.specs.Buffers.{HeldPacket, packet_under}
use Rattle.flowspace.specs.Options.{first_some}
use Rattle.slice_words.specs.FlowMods.{Ground, packet_at}
use Rattle.flow_facts.specs.PacketOuts.{carried_header, is_probe}
use Rattle.slice_words.specs.PacketOuts.{is_buffered_out, marked, origin_with, sent_out_with, names_no_packet, may_come_by, comes_by_another, lies_aside, carries_another, forbidden_out, out_too_large, packet_out_fault}
use Rattle.slice_words.specs.Alone.{number_it_came_with}
use Rattle.slice_words.proofs.LoneRules.{same_port}
use Rattle.slice_words.proofs.Holding.{found_holds}
use Rattle.slice_words.proofs.Forwarding.{not_applying}
use Rattle.flow_facts.specs.PacketOuts.{MayComeBy, CarriesWritten, SendsOwnPacket, SendsToOwnPort, SendsProbeToOwnPort, SendsToOwnPorts}
use Rattle.lane_laws.proofs.Marks.{IsProbe-marked}
use Rattle.lane_laws.proofs.Own.{named_out, named_probe}

-- ---- the lines that don't refuse

-- a packet-out that is sent on names a packet that is held, if it names one, comes by a port that it may come by, and carries what the slice may send
record KeepsLines (g : Ground) (m : PacketOut) : Type 0 where
  named : (is_buffered_out m && is_none (packet_at g m.buffer)) ≡ false
  port : (not (is_buffered_out m) && not (may_come_by g m.in_port)) ≡ false
  space : (not (is_buffered_out m) && not (is_probe m) && not (lies_aside g (carried_header m))) ≡ false

keeps_lines : (g : Ground) (m : PacketOut) → packet_out_fault g m ≡ None → KeepsLines g m
unfolding packet_out_fault
keeps_lines g m none =
    let from_action = forbidden_out g m ∷ out_too_large g m ∷ [] in
    let held = option_or-None (names_no_packet g m) (first_some (comes_by_another g m ∷ carries_another g m ∷ from_action)) none in
    let port = option_or-None (comes_by_another g m) (first_some (carries_another g m ∷ from_action)) held.1 in
    let space = option_or-None (carries_another g m) (first_some from_action) port.1 in
    record { named = not_applying _ (1, 8) held.0; port = not_applying _ (1, 5) port.0; space = not_applying _ (1, 5) space.0 }

none_named : (buffered none : Bool) → (buffered && none) ≡ false → none ≡ true → buffered ≡ false
none_named false none is at = refl
none_named true none is at = absurd (true≢false (sym at ∙ is))

-- a number that names no packet is none
unbuffered : (b : Bool) → not b ≡ false → b ≡ true
unbuffered true is = refl
unbuffered false is = absurd (true≢false is)

no_buffer : (g : Ground) (m : PacketOut) → KeepsLines g m → packet_at g m.buffer ≡ None → m.buffer ≡ NO_BUFFER
no_buffer g m lines none = eqb-true m.buffer NO_BUFFER (unbuffered (m.buffer == NO_BUFFER) (none_named (is_buffered_out m) (is_none (packet_at g m.buffer)) lines.named (ap is_none none)))

passes_first : (buffered other : Bool) → (not buffered && not other) ≡ false → buffered ≡ false → other ≡ true
passes_first false true is at = refl
passes_first false false is at = absurd (true≢false is)
passes_first true other is at = absurd (true≢false at)

passes_second : (buffered probe other : Bool) → (not buffered && not probe && not other) ≡ false → buffered ≡ false → probe ≡ false → other ≡ true
passes_second false false true is at plain = refl
passes_second false false false is at plain = absurd (true≢false is)
passes_second false true other is at plain = absurd (true≢false plain)
passes_second true probe other is at plain = absurd (true≢false at)

not_buffered : (m : PacketOut) → m.buffer ≡ NO_BUFFER → is_buffered_out m ≡ false
not_buffered m is = rw is refl

-- ---- the three ways

-- the actions that a slice may have for an origin
abbrev pub list_for : Ground → PacketOut → Origin → List Action
list_for g m origin = list_given (permitted (lone_rules g.slot g.patterns) g.slot origin m.actions (flooded false g.ports) (flooded true g.ports))

-- what is sent for a packet that the slice holds
abbrev pub sent_held : List ℕ → Ground → PacketOut → HeldPacket → PacketOut
sent_held came g m packet = record { xid = g.xid; buffer = number_it_came_with came packet.ordinal; in_port = packet.header.in_port; actions = list_for g m (origins.Packet packet.header); payload = [] }

-- what is sent for a probe
abbrev pub sent_probe : Ground → PacketOut → PacketOut
sent_probe g m = record { xid = g.xid; buffer = NO_BUFFER; in_port = m.in_port; actions = list_for g m (origins.Probe m.in_port); payload = marked g.slot m.payload }

-- what is sent for a packet that it carries
abbrev pub sent_carried : Ground → PacketOut → PacketOut
sent_carried g m = record { xid = g.xid; buffer = NO_BUFFER; in_port = m.in_port; actions = list_for g m (origins.Packet (carried_header m)); payload = m.payload }

-- what is sent by the packet that is named
abbrev pub out_with : List ℕ → Ground → PacketOut → Option HeldPacket → PacketOut
out_with came g m named =
    let sent = sent_out_with named g m (list_for g m (origin_with named m)) in
    elim named [ None ↦ sent | Some packet ↦ record sent { buffer = number_it_came_with came packet.ordinal } ]

-- and by whether it is a probe
abbrev unnamed : Ground → PacketOut → Bool → PacketOut
unnamed g m probe = record {
  xid = g.xid;
  buffer = NO_BUFFER;
  in_port = m.in_port;
  actions = list_for g m (if probe then origins.Probe m.in_port else origins.Packet (carried_header m));
  payload = if probe then marked g.slot m.payload else m.payload;
}

-- it has no number, and comes by a port by which it may come
abbrev pub MayComeIn : Ground → PacketOut → Type 0
MayComeIn g m = (m.buffer ≡ NO_BUFFER) × (may_come_by g m.in_port ≡ true)

-- what holds of each of the three holds of what is sent
pub record HoldsOfOuts (Q : PacketOut → Type 0) (came : List ℕ) (g : Ground) (m : PacketOut) : Type 0 where
  pub held : (packet : HeldPacket) → packet_at g m.buffer ≡ Some packet → Q (sent_held came g m packet)
  pub probe : MayComeIn g m → is_probe m ≡ true → Q (sent_probe g m)
  pub carried : MayComeIn g m → is_probe m ≡ false → lies_aside g (carried_header m) ≡ true → Q (sent_carried g m)

pub out_holds : (Q : PacketOut → Type 0) (came : List ℕ) (g : Ground) (m : PacketOut) → packet_out_fault g m ≡ None → HoldsOfOuts Q came g m → Q (out_with came g m (packet_at g m.buffer))
out_holds Q came g m none holds = by_named (packet_at g m.buffer) refl
  where
    lines : KeepsLines g m
    lines = keeps_lines g m none

    by_probe : m.buffer ≡ NO_BUFFER → (probe : Bool) → is_probe m ≡ probe → Q (unnamed g m probe)
    by_probe is true probe = holds.probe (is, passes_first (is_buffered_out m) (may_come_by g m.in_port) lines.port (not_buffered m is)) probe
    by_probe is false probe =
        holds.carried (is, passes_first (is_buffered_out m) (may_come_by g m.in_port) lines.port (not_buffered m is)) probe
        (passes_second (is_buffered_out m) (is_probe m) (lies_aside g (carried_header m)) lines.space (not_buffered m is) probe)

    by_named : (named : Option HeldPacket) → packet_at g m.buffer ≡ named → Q (out_with came g m named)
    by_named (Some packet) is = holds.held packet is
    by_named None is = by_probe (no_buffer g m lines is) (is_probe m) refl

-- ---- the packet that is held

-- it is one of those that are held
at_number : (P : HeldPacket → Type 0) (none : Bool) (number : ℕ) (held : List HeldPacket) (packet : HeldPacket) → All P held → (if none then None else packet_under number held) ≡ Some packet → P packet
at_number P true number held packet all is = absurd cc
at_number P false number held packet all is = (found_holds P (λ other. other.ordinal % 2 ^ 24 == number) held packet all is).0

pub packet_holds : (P : HeldPacket → Type 0) (g : Ground) (buffer : ℕ) (packet : HeldPacket) → All P g.held → packet_at g buffer ≡ Some packet → P packet
packet_holds P g buffer packet all is = at_number P (buffer == NO_BUFFER) buffer g.held packet all is

-- ---- where it comes in, and what it carries

-- it counts as received where it may
pub came_in : (g : Ground) (rules : List Rule) (slot port : ℕ) → g.slot ≡ slot → g.patterns ≡ writes_of rules slot → may_come_by g port ≡ true → MayComeBy rules slot port
came_in g rules slot port on_slot on_patterns may =
    elim (or_cases (is_own_port g.slot g.patterns port || port == NONE) (port == CONTROLLER) may) [
      | inr controller ↦ inr (inr (eqb-true port CONTROLLER controller))
      | inl either ↦
          elim (or_cases (is_own_port g.slot g.patterns port) (port == NONE) either) [
            | inl own ↦ inl ((has_port-iff rules slot port).0 (sym (same_port slot rules port) ∙ (rw (on_slot, on_patterns) at own)))
            | inr none ↦ inr (inl (eqb-true port NONE none))
          ]
    ]

pub entry_below : (c : Option ℕ) → IfSome c IsInPort → entry_for c 0 < 2 ^ 16
entry_below None known = omega arith
entry_below (Some v) (inl le) = omega (arith, le)
entry_below (Some v) (inr is) = omega (arith, is)

-- a match that has a packet's header but for its port has it by some port
pub has_by : (m : Pattern) (bytes : List ℕ) (in_port : ℕ) → Has (any_in_port m) (header_of_packet in_port bytes) → Has m (header_of_packet (entry_for m.in_port 0) bytes)
unfolding header_of_packet
has_by m bytes in_port has = Has-entry m (header_of_packet 0 bytes) (record {
  in_port = tt;
  dl_src = has.dl_src;
  dl_dst = has.dl_dst;
  dl_vlan = has.dl_vlan;
  dl_vlan_pcp = has.dl_vlan_pcp;
  dl_type = has.dl_type;
  nw_tos = has.nw_tos;
  nw_proto = has.nw_proto;
  nw_src = has.nw_src;
  nw_dst = has.nw_dst;
  tp_src = has.tp_src;
  tp_dst = has.tp_dst;
})

pub carries_written : (ss : List Slice) (rules : List Rule) → IsSwitchPolicy ss rules → (g : Ground) (slot : ℕ) (m : PacketOut) → g.patterns ≡ writes_of rules slot → lies_aside g (carried_header m) ≡ true
    → CarriesWritten rules slot (sent_carried g m)
carries_written ss rules policy g slot m on_patterns lies =
    let test = λ (pattern : Pattern). has (any_in_port pattern) (carried_header m) in
    let written : list_any test (writes_of rules slot) ≡ true = rw on_patterns at lies in
    let some = (Any-writes_of rules slot (λ pattern. test pattern ≡ true)).0 (Any-from_list_any test (writes_of rules slot) written) in
    let rule = some.1 in
    let entry = entry_for rule.pattern.in_port 0 in
    let plain : IsPlainRule rule = rw some.3 at (policy.proper.plain_rules some.0 rule some.2) in
    let has_rule : Has rule.pattern (header_of_packet entry m.payload) = has_by rule.pattern m.payload m.in_port (Has-has (any_in_port rule.pattern) (carried_header m) some.4.1) in (
      entry,
      entry_below rule.pattern.in_port plain.in_port,
      λ range. (Writes-iff ss rules policy slot (header_of_packet entry m.payload) range).1 (some.0, rule, some.2, some.3, (some.4.0, has_rule)),
    )

-- so what is sent is the slice's own
pub out_lies : (IsHeaderUnder : ℕ → Header → Type 0) (ss : List Slice) (rules : List Rule) → IsSwitchPolicy ss rules → (came : List ℕ) (g : Ground) (slot : ℕ) (m : PacketOut) → g.slot ≡ slot → g.patterns ≡ writes_of rules slot
    → All (λ packet. (h : Header) × IsHeaderUnder (number_it_came_with came packet.ordinal) h × Writes rules slot h) g.held
    → HoldsOfOuts (SendsOwnPacket IsHeaderUnder rules slot) came g m
out_lies IsHeaderUnder ss rules policy came g slot m on_slot on_patterns all = record {
  held = λ packet is. inl (packet_holds (λ held. (h : Header) × IsHeaderUnder (number_it_came_with came held.ordinal) h × Writes rules slot h) g m.buffer packet all is);
  probe = λ comes is. inr (refl, came_in g rules slot m.in_port on_slot on_patterns comes.1, inr (subst (IsProbe (marked g.slot m.payload)) on_slot (IsProbe-marked g.slot m is)));
  carried = λ comes is lies. inr (refl, came_in g rules slot m.in_port on_slot on_patterns comes.1, inl (carries_written ss rules policy g slot m on_patterns lies));
}

-- ---- ports

-- no bytes are no probe
pub not_lldp : (in_port : ℕ) → ((header_of_packet in_port []).dl_type == LLDP) ≡ false
unfolding header_of_packet link_of
not_lldp in_port = refl

held_no_probe : (came : List ℕ) (g : Ground) (m : PacketOut) (packet : HeldPacket) → is_probe (sent_held came g m packet) ≡ true → ⊥
held_no_probe came g m packet is =
    true≢false (sym (and_parts (number_it_came_with came packet.ordinal == NO_BUFFER) ((header_of_packet packet.header.in_port []).dl_type == LLDP) is).1 ∙ not_lldp packet.header.in_port)

-- what it carries is no probe if the slice's message wasn't
pub same_probe : (g : Ground) (m : PacketOut) → m.buffer ≡ NO_BUFFER → is_probe (sent_carried g m) ≡ is_probe m
same_probe g m is = rw is refl

-- where each action of the lists has a way, each names a port
pub out_outputs : (rules : List Rule) (came : List ℕ) (g : Ground) (slot : ℕ) (m : PacketOut) → ((origin : Origin) → All (HasWay rules slot origin) (list_for g m origin))
    → HoldsOfOuts (SendsToOwnPorts rules slot) came g m
out_outputs rules came g slot m ways = record {
  held = λ packet is. (
    All-weaker (HasWay rules slot (origins.Packet packet.header)) (SendsToOwnPort rules slot) (named_out rules slot packet.header) (list_for g m (origins.Packet packet.header)) (ways (origins.Packet packet.header)),
    λ probe. absurd (held_no_probe came g m packet probe),
  );
  probe = λ comes is.
      let way = ways (origins.Probe m.in_port) in (
        All-weaker (HasWay rules slot (origins.Probe m.in_port)) (SendsToOwnPort rules slot) (λ action has. (named_probe rules slot m.in_port action has).0) (list_for g m (origins.Probe m.in_port)) way,
        λ probe. All-weaker (HasWay rules slot (origins.Probe m.in_port)) (SendsProbeToOwnPort rules slot) (λ action has. (named_probe rules slot m.in_port action has).1) (list_for g m (origins.Probe m.in_port)) way,
      );
  carried = λ comes is lies. (
    All-weaker (HasWay rules slot (origins.Packet (carried_header m))) (SendsToOwnPort rules slot) (named_out rules slot (carried_header m)) (list_for g m (origins.Packet (carried_header m))) (ways (origins.Packet (carried_header m))),
    λ probe. absurd (true≢false (sym probe ∙ same_probe g m comes.0 ∙ is)),
  );
}
