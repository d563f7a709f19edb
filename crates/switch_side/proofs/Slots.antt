-- What one slice is sent for a message of the switch, by whether the slice is up.
use Rattle.std.proofs.Common.{◌≡◌, ℕ, ◌==◌, ◌&&◌, Bool, true, false, if◌then◌else◌, List, [], ◌∷◌, ◌++◌, map, length, refl, ap, ap₂, sym, ◌∙◌, Option, Some, None, is_some, unwrap_or, option_map, option_and_then, true≢false, Result, Ok, Err}
use Rattle.of10_model.specs.Normal.{is_value, bit}
use Rattle.of10_flow.specs.declared.protocol.TheConstants.{NO_BUFFER}
use Rattle.of10_flow.specs.declared.packet_in.PacketIn.{PacketIn}
use Rattle.of10_flow.specs.PacketIns.{spell_packet_in}
use Rattle.of10_port.specs.declared.status.PortStatus.{PortStatus}
use Rattle.of10_port.specs.Ports.{port_number}
use Rattle.of10_port.specs.PortStatus.{spell_port_status}
use Rattle.of10_message.specs.declared.fault.Unread.{Unread}
use Rattle.of10_message.specs.declared.fault.Unread.TheVariants.{BadLength}
use Rattle.of10_message.specs.Heads.{xid_of}
use Rattle.of10_message.specs.Switch as says
use Rattle.of10_message.specs.Switch.{SwitchMessage, read_switch}
use Rattle.flowspace.specs.declared.rules.Rule.{Rule}
use Rattle.flowspace.specs.Order.{first_rule}
use Rattle.flowspace.specs.Owners.{has_port}
use Rattle.flowspace.specs.Policies.{PolicyView}
use Rattle.port_view.specs.KnownPorts.{is_kept}
use Rattle.flow_book.specs.declared.state.SliceState.{SliceState}
use Rattle.slice_words.specs.Items.{Settings, is_own_port, Writer, Reader, Probe, Item, Lost, Status, End, is_up, miss_send_len, buffered_count}
use Rattle.slice_words.specs.Answers.{packet_told}
use Rattle.slice_words.specs.Alone.{answer_to, answers_for}
use Rattle.slice_words.specs.Standing.{SliceStands}
use Rattle.desk_words.specs.declared.phase.Phase.TheVariants.{Opened}
use Rattle.desk_words.specs.Openings.{status_said, kept_beside, rules_of, KnownSwitch}
use Rattle.desk_words.specs.Histories.{is_slot, settings_at, SliceSide, handed, header_in, number_given, marked_slot, shares_of, packet_items, packet_in_items, holder, said_items}
use Rattle.switch_side.specs.declared.audience.Audience.TheVariants.{Prober}
use Rattle.switch_side.specs.Audiences.{named_by, audience_of}
use Rattle.switch_side.specs.Dispatches.{answered_with, told_at}
use Rattle.switch_side.specs.Carrying.{unnumbered, unmarked, written_as, once, named_told, told_up, packet_for, status_for}
use Rattle.switch_side.proofs.MessageTypes.{is_for_one, items_of_said}

-- ---- packets

-- what a slice that is up is sent for a rule's shares of a packet
named_sent : (s : Settings) (view : List Item) (packet : PacketIn) (writes reads free : Bool) → (packet.buffer == NO_BUFFER) ≡ free → is_up view ≡ true
    → answers_for s view (map (λ share. handed share packet) ((if writes then Writer (is_some (number_given packet)) ∷ [] else []) ++ (if reads then Reader ∷ [] else [])))
    ≡ once writes (spell_packet_in (written_as (miss_send_len view) (buffered_count view) packet)) ++ once reads (spell_packet_in (unnumbered packet))
unfolding packet_told
named_sent s view packet true true true is up = rw (is, up) refl
named_sent s view packet true true false is up = rw (is, up) refl
named_sent s view packet true false true is up = rw (is, up) refl
named_sent s view packet true false false is up = rw (is, up) refl
named_sent s view packet false true free is up = rw up refl
named_sent s view packet false false free is up = refl

-- and for a probe of its own
probe_sent : (s : Settings) (view : List Item) (packet : PacketIn) (own : Bool) → is_up view ≡ true
    → answers_for s view (map (λ share. handed share packet) (if own then Probe ∷ [] else [])) ≡ once own (spell_packet_in (unmarked packet))
unfolding packet_told
probe_sent s view packet true up = rw up refl
probe_sent s view packet false up = refl

told_named : (first : Option Rule) (packet : PacketIn) (slot : ℕ) (state : SliceState)
    → told_up (named_by first) packet slot state ≡ named_told (is_value slot (option_and_then (λ rule. rule.writer) first)) (bit (unwrap_or (option_map (λ rule. rule.readers) first) 0) slot) state packet
told_named None packet slot state = refl
told_named (Some rule) packet slot state = refl

up_sent : (s : Settings) (view : List Item) (packet : PacketIn) (slot : ℕ) (state : SliceState) (marked : Option ℕ) (first : Option Rule)
    → is_up view ≡ true → state.miss_send_len ≡ miss_send_len view → state.buffers.given ≡ buffered_count view
    → answers_for s view (map (λ share. handed share packet) (elim marked [
      | None ↦ (if is_value slot (option_and_then (λ rule. rule.writer) first) then Writer (is_some (number_given packet)) ∷ [] else [])
          ++ (if bit (unwrap_or (option_map (λ rule. rule.readers) first) 0) slot then Reader ∷ [] else [])
      | Some other ↦ if other == slot then Probe ∷ [] else []
    ]))
    ≡ told_up (elim marked [ None ↦ named_by first | Some other ↦ Prober other ]) packet slot state
up_sent s view packet slot state None first up wants given =
    let writes = is_value slot (option_and_then (λ (rule : Rule). rule.writer) first) in
    let reads = bit (unwrap_or (option_map (λ (rule : Rule). rule.readers) first) 0) slot in
    named_sent s view packet writes reads (packet.buffer == NO_BUFFER) refl up
    ∙ ap₂ (λ (n count : ℕ). once writes (spell_packet_in (written_as n count packet)) ++ once reads (spell_packet_in (unnumbered packet))) (sym wants) (sym given)
    ∙ sym (told_named first packet slot state)
up_sent s view packet slot state (Some other) first up wants given = probe_sent s view packet (other == slot) up

by_up : (s : Settings) (view : List Item) (policy : PolicyView) (rules : List Rule) (slot : ℕ) (packet : PacketIn) (state : SliceState) (up : Bool)
    → is_up view ≡ up → state.miss_send_len ≡ miss_send_len view → state.buffers.given ≡ buffered_count view
    → answers_for s view (if up then map (λ share. handed share packet) (shares_of policy rules slot packet) else []) ≡ (if up then told_up (audience_of (length policy.slices) rules packet) packet slot state else [])
by_up s view policy rules slot packet state true is wants given = up_sent s view packet slot state (marked_slot (length policy.slices) packet.payload) (first_rule rules (header_in packet)) is wants given
by_up s view policy rules slot packet state false is wants given = refl

lost_silent : (s : Settings) (view : List Item) (k : ℕ) (up : Bool) → is_up view ≡ up → (answer_to s view (Lost k)).to_slice ≡ []
lost_silent s view k true is = rw is refl
lost_silent s view k false is = rw is refl

by_lost : (s : Settings) (view : List Item) (policy : PolicyView) (rules : List Rule) (slot : ℕ) (packet : PacketIn) (state : SliceState) (lost : Option ℕ)
    → state.miss_send_len ≡ miss_send_len view → state.buffers.given ≡ buffered_count view
    → answers_for s view ((elim lost [ None ↦ [] | Some k ↦ Lost k ∷ [] ]) ++ packet_items policy rules slot view packet) ≡ (if is_up view then told_up (audience_of (length policy.slices) rules packet) packet slot state else [])
by_lost s view policy rules slot packet state None wants given = by_up s view policy rules slot packet state (is_up view) refl wants given
by_lost s view policy rules slot packet state (Some k) wants given =
    ap (λ (first : List (List ℕ)). first ++ answers_for s (Lost k ∷ view) (packet_items policy rules slot view packet)) (lost_silent s view k (is_up view) refl)
    ∙ by_up s (Lost k ∷ view) policy rules slot packet state (is_up view) refl wants given

packet_sent : (s : Settings) (policy : PolicyView) (rules : List Rule) (slot : ℕ) (side : SliceSide) (packet : PacketIn) (state : SliceState) → SliceStands s side.sight state
    → answers_for s side.sight.view (packet_in_items policy rules slot side packet) ≡ packet_for (audience_of (length policy.slices) rules packet) packet slot state
packet_sent s policy rules slot side packet state stands =
    by_lost s side.sight.view policy rules slot packet state (option_and_then (λ number. holder number side.numbered) (number_given packet)) stands.miss_send_len stands.given
    ∙ ap (λ (up : Bool). if up then told_up (audience_of (length policy.slices) rules packet) packet slot state else []) (sym stands.up)

-- ---- ports

one_sent : (s : Settings) (view : List Item) (status : PortStatus) (own up : Bool) → is_up view ≡ up
    → answers_for s view (if own then Status status ∷ [] else []) ≡ once (up && own) (spell_port_status status 0)
one_sent s view status true true is = rw is refl
one_sent s view status true false is = rw is refl
one_sent s view status false true is = refl
one_sent s view status false false is = refl

-- what is said of a change of a port, if there is one, to the slice at a slot
abbrev pub say_status : List Rule → Option PortStatus → ℕ → SliceState → List (List ℕ)
say_status rules None slot state = []
say_status rules (Some status) slot state = status_for rules status slot state

by_kept : (s : Settings) (rules : List Rule) (slot : ℕ) (view : List Item) (status : PortStatus) (state : SliceState) (kept : Bool) → state.up ≡ is_up view → is_own_port s.slot s.patterns (port_number status.port) ≡ has_port rules slot (port_number status.port)
    → answers_for s view (if kept && is_own_port s.slot s.patterns (port_number status.port) then Status status ∷ [] else []) ≡ say_status rules (if kept then Some status else None) slot state
by_kept s rules slot view status state true up own =
    one_sent s view status (is_own_port s.slot s.patterns (port_number status.port)) (is_up view) refl ∙ ap₂ (λ (is has : Bool). once (is && has) (spell_port_status status 0)) (sym up) own
by_kept s rules slot view status state false up own = refl

-- ---- messages

-- what is said of a message to the slice at a slot, unless it is for one slice at most
abbrev pub say : ℕ → List Rule → List (List ℕ) → Result SwitchMessage Unread → ℕ → SliceState → List (List ℕ)
say count rules known (Ok (says.PacketIn packet)) slot state = packet_for (audience_of count rules packet) packet slot state
say count rules known said slot state = say_status rules (kept_beside known (status_said said)) slot state

end_answered : (s : Settings) (view : List Item) (up : Bool) → is_up view ≡ up → answers_for s view (End ∷ []) ≡ []
end_answered s view true is = rw is refl
end_answered s view false is = rw is refl

said_sent : (p : PolicyView) (slot : ℕ) (switch : KnownSwitch) (side : SliceSide) (xid : ℕ) (said : Result SwitchMessage Unread) (state : SliceState) → is_for_one said ≡ false
    → SliceStands (settings_at p slot switch.features) side.sight state
    → ((port : ℕ) → is_own_port (settings_at p slot switch.features).slot (settings_at p slot switch.features).patterns port ≡ has_port (rules_of p switch.features) slot port)
    → answers_for (settings_at p slot switch.features) side.sight.view (said_items p slot switch side xid said) ≡ say (length p.slices) (rules_of p switch.features) switch.known said slot state
said_sent p slot switch side xid (Err BadLength) state all stands own = end_answered (settings_at p slot switch.features) side.sight.view (is_up side.sight.view) refl
said_sent p slot switch side xid (Ok (says.PacketIn packet)) state all stands own = packet_sent (settings_at p slot switch.features) p (rules_of p switch.features) slot side packet state stands
said_sent p slot switch side xid (Ok (says.PortStatus status)) state all stands own =
    by_kept (settings_at p slot switch.features) (rules_of p switch.features) slot side.sight.view status state (is_kept status switch.known) stands.up (own (port_number status.port))
said_sent p slot switch side xid (Ok (says.FlowRemoved entry)) state all stands own = absurd (true≢false all)
said_sent p slot switch side xid (Ok (says.Error error)) state all stands own = absurd (true≢false all)
said_sent p slot switch side xid (Ok says.BarrierReply) state all stands own = absurd (true≢false all)
said_sent p slot switch side xid (Ok (says.QueueGetConfigReply queues)) state all stands own = absurd (true≢false all)
said_sent p slot switch side xid (Ok (says.StatsReply part body)) state all stands own = absurd (true≢false all)
said_sent p slot switch side xid said state all stands own = refl

-- a slice of the policy is sent what is said to it
pub slot_sent : (p : PolicyView) (slot moment : ℕ) (switch : KnownSwitch) (side : SliceSide) (message : List ℕ) (said : Result SwitchMessage Unread) (state : SliceState)
    → switch.phase ≡ Opened → is_slot p slot ≡ true → read_switch message ≡ said → is_for_one said ≡ false → SliceStands (settings_at p slot switch.features) side.sight state
    → ((port : ℕ) → is_own_port (settings_at p slot switch.features).slot (settings_at p slot switch.features).patterns port ≡ has_port (rules_of p switch.features) slot port)
    → answered_with p slot switch side (told_at moment message) ≡ say (length p.slices) (rules_of p switch.features) switch.known said slot state
slot_sent p slot moment switch side message said state opened here is all stands own =
    ap (answers_for (settings_at p slot switch.features) side.sight.view) (items_of_said p slot moment switch side message said opened here is)
    ∙ said_sent p slot switch side (xid_of message) said state all stands own
