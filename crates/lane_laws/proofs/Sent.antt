-- What a message of a slice has sent to the switch after a history.
use Rattle.std.proofs.Common.{◌≡◌, refl, sym, ◌∙◌, ap, subst, ℕ, ◌+◌, ◌<◌, ◌==◌, ◌&&◌, ◌⊎◌, inl, inr, Bool, true, false, true≢false, if◌then◌else◌, List, [], ◌∷◌, length, map, drop, slice_get, get_or, All, append-nil, Option, Some, None, Ok, option_map, arith}
use Rattle.std.proofs.lemmas.Bool.{cases_Bool, and_parts, eq-eqb, le-ltb}
use Rattle.std.proofs.lemmas.Bool.Decides.{eqb_tells}
use Rattle.std.proofs.lemmas.Option.{slice_get_cases}
use Rattle.std.proofs.lemmas.List.Elements.{All-nil, All-cons, All-map, All-weaker}
use Rattle.std.proofs.lemmas.List.Quantifiers.{position-Some}
use Rattle.of10_model.specs.declared.pattern.Pattern.{Pattern}
use Rattle.of10_model.specs.Header.{Header}
use Rattle.of10_model.specs.Pattern.{Has, has}
use Rattle.of10_model.proofs.Membership.{Has-has}
use Rattle.of10_model.proofs.Results.{either}
use Rattle.of10_action.specs.declared.action.Action.{Action}
use Rattle.of10_action.specs.Reading.{list_given}
use Rattle.of10_port.specs.declared.features.Features.{Features}
use Rattle.of10_flow.specs.declared.flow_mod.FlowMod.{FlowMod}
use Rattle.of10_flow.specs.declared.packet_out.PacketOut.{PacketOut}
use Rattle.of10_flow.specs.declared.protocol.TheConstants.{NO_BUFFER}
use Rattle.of10_flow.specs.FlowMods.{spell_flow_mod}
use Rattle.of10_flow.specs.PacketOuts.{spell_packet_out}
use Rattle.of10_flow.specs.Tables.{is_delete}
use Rattle.of10_flow.proofs.Keeping.{Treatment-Apply}
use Rattle.of10_ctl.specs.declared.kind.TheConstants.{BARRIER_REQUEST, QUEUE_GET_CONFIG_REQUEST}
use Rattle.of10_ctl.specs.Frames.{message_of}
use Rattle.of10_stats.specs.declared.request.StatsRequest.{StatsRequest}
use Rattle.of10_stats.specs.Requests.{spell_request}
use Rattle.stats_filter.specs.Asking.{asked_as}
use Rattle.slice_words.specs.Questions.{may_ask}
use Rattle.of10_message.specs.declared.controller.FromController.{FromController}
use Rattle.of10_message.specs.declared.controller.FromController.TheVariants as said
use Rattle.of10_message.specs.declared.queues.QueuesQuestion.{QueuesQuestion}
use Rattle.of10_message.specs.Queues.{spell_queues_request}
use Rattle.of10_message.proofs.ConfigReadAgain.{question_passed}
use Rattle.of10_message.proofs.ControllerCases.{queues_as_read}
use Rattle.flowspace.specs.declared.slices.Slice.{Slice}
use Rattle.flowspace.specs.declared.rules.Rule.{Rule}
use Rattle.flowspace.specs.Policies.{PolicyView, IsPolicy}
use Rattle.flowspace.specs.Owners.{Owns, Writes}
use Rattle.flowspace.specs.Order.{rules_on}
use Rattle.flowspace.proofs.Parts.{IsSwitchPolicy-rules_on}
use Rattle.port_view.specs.SlicePorts.{ports_of_slice, flooded}
use Rattle.flowmod_expand.specs.Pieces.{pieces_within, writes_of, pieces_of}
use Rattle.flowmod_expand.specs.Messages.{buffer_at, piece_message}
use Rattle.flowmod_expand.proofs.Space.{Owns-pieces_of}
use Rattle.flowmod_expand.proofs.Outsiders.{piece_is}
use Rattle.action_check.specs.declared.origin.Origin.{Origin}
use Rattle.action_check.specs.declared.origin.Origin.TheVariants.{Piece}
use Rattle.action_check.specs.Permitted.{permitted}
use Rattle.action_check.specs.Soundness.{HasWay}
use Rattle.port_turns.proofs.StayBytes.{turn_in_bytes}
use Rattle.slice_words.specs.Items.{Settings, message_read, message_turned, Sight, lone_rules, Item, Msg, is_up, known_ports}
use Rattle.slice_words.specs.Pasts.{SendsOut, Answer, no_answer}
use Rattle.slice_words.specs.Buffers.{HeldPacket, held_packets}
use Rattle.slice_words.specs.FlowMods.{Ground, ground_of, pieces_on, permitted_on, packet_at, named_packet, piece_place, carrier_of, flow_mod_fault}
use Rattle.slice_words.specs.PacketOuts.{origin_with, permitted_out, packet_out_on, packet_out_fault}
use Rattle.slice_words.specs.Answers.{message_answer}
use Rattle.slice_words.specs.Alone.{number_it_came_with, rendered, answer_to, put_for}
use Rattle.slice_words.specs.Standing.{past_of}
use Rattle.slice_words.proofs.LoneRules.{same_ports}
use Rattle.slice_words.proofs.Forwarding.{numbered, flow_mods_numbered, rendered_sent}
use Rattle.desk_words.specs.declared.event.Event.TheVariants.{SliceMsg}
use Rattle.desk_words.specs.declared.event.Timed.{Timed}
use Rattle.desk_words.specs.declared.phase.Phase.{Phase}
use Rattle.desk_words.specs.declared.phase.Phase.TheVariants.{Fresh, Begun, Opened, Gone}
use Rattle.desk_words.specs.Openings.{phase_of, opening_of, rules_of, ports_after}
use Rattle.desk_words.specs.Histories.{is_slot, settings_at, header_in, SliceSide, side_start, side_of, view_of, is_open, is_slice_up}
use Rattle.desk_words.specs.Sent.{lane_by}
use Rattle.desk_words.specs.Laws.{HasSeen}
use Rattle.desk_words.proofs.Alone.{has_told, opened_told, blind}
use Rattle.desk_words.proofs.Silence.{sees_nothing}
use Rattle.desk_words.proofs.Seen.{seen}
use Rattle.flow_facts.specs.FlowMods.{LiesInFlowspace, NamesOwnPort, OutputsToOwnPorts, LeavesOtherHeaders}
use Rattle.flow_facts.specs.PacketOuts.{SendsOwnPacket, SendsToOwnPorts, ChangesNoTable}
use Rattle.flow_facts.specs.Inquiries.{AsksOwnPort}
use Rattle.flow_facts.specs.Messages.{AsksForReply}
use Rattle.desk_words.specs.Arrivals.{IsBufferHeader}
use Rattle.lane_laws.specs.Lane.{CarriesOwnBuffer, SendsOwnBuffer, IsOwnBuffer, HoldsWritten, rules_in, settings_in, ports_shown, ground_in, switch_number, flow_mods_at, packet_out_at, KeepsRate, IsPermitted, IsPermittedOut, IsPermittedInquiry, IsAnyPermitted}
use Rattle.lane_laws.proofs.Keeping.{IsKept, kept_now}
use Rattle.slice_side.specs.Checking.{IsInquirySent}
use Rattle.lane_laws.proofs.Forwarded.{put_whole, out_whole, question_whole, put_or_none}
use Rattle.lane_laws.proofs.Asked.{asks_for_reply, owns, own_may, may_be}
use Rattle.lane_laws.proofs.Own.{each_sent, sent_within, permitted_own, permitted_ways, permitted_alike, HoldsOfLists, given_holds, sent_holds}
use Rattle.lane_laws.proofs.Outs.{list_for, out_with, out_holds, packet_holds, out_lies, out_outputs}

-- ---- the lane at a message of a slice

-- only a slice of the policy is up
here_of : (policy : PolicyView) (slot : ℕ) (h : List Timed) → is_up (view_of policy slot h) ≡ true → is_slot policy slot ≡ true
here_of policy slot h up = elim (cases_Bool (is_slot policy slot)) [
  | inl here ↦ here
  | inr out ↦ absurd (true≢false (sym up ∙ ap (λ (sight : Sight). is_up sight.view) (sees_nothing policy slot h out)))
]

-- what follows from a message of the slice
abbrev answer_in : PolicyView → ℕ → List Timed → ℕ → List ℕ → Answer
answer_in policy slot h moment message = message_answer (settings_in policy slot h) (view_of policy slot h) (past_of (settings_in policy slot h) (view_of policy slot h)) moment message

put_up : (s : Settings) (view : List Item) (came message : List ℕ) (moment : ℕ) (here same : Bool) → here ≡ true → same ≡ true → is_up view ≡ true
    → map (rendered came) (put_for s view (if here then (if same && is_up view then Msg message moment ∷ [] else []) else [])) ≡ map (rendered came) (message_answer s view (past_of s view) moment message).to_switch
put_up s view came message moment here same is_here is_same up =
    let whole = message_answer s view (past_of s view) moment message in
    rw (is_here, is_same, up)
    (ap (map (rendered came)) (append-nil (answer_to s view (Msg message moment)).to_switch ∙ ap (λ (b : Bool). (if b then whole else no_answer).to_switch) up))

put_down : (s : Settings) (view : List Item) (came message : List ℕ) (moment : ℕ) (here same : Bool) → same ≡ true → is_up view ≡ false
    → map (rendered came) (put_for s view (if here then (if same && is_up view then Msg message moment ∷ [] else []) else [])) ≡ []
put_down s view came message moment true same is_same down = rw (is_same, down) refl
put_down s view came message moment false same is_same down = refl

lane_of_up : (policy : PolicyView) (h : List Timed) (timed : Timed) (slot : ℕ) (message : List ℕ) (phase : Phase) → phase_of h ≡ phase → timed.event ≡ SliceMsg slot message
    → (is_open phase && is_up (view_of policy slot h)) ≡ true → lane_by policy h timed ≡ map (rendered (side_of policy slot h).sight.came) (answer_in policy slot h timed.moment message).to_switch
lane_of_up policy h timed slot message Fresh at is up = absurd (true≢false (sym up))
lane_of_up policy h timed slot message Begun at is up = absurd (true≢false (sym up))
lane_of_up policy h timed slot message Gone at is up = absurd (true≢false (sym up))
lane_of_up policy h timed slot message Opened at is up =
    rw (at, is)
    (put_up (settings_in policy slot h) (view_of policy slot h) (side_of policy slot h).sight.came message timed.moment (is_slot policy slot) (slot == slot) (here_of policy slot h up) (eq-eqb slot slot refl) up)

lane_of_down : (policy : PolicyView) (h : List Timed) (timed : Timed) (slot : ℕ) (message : List ℕ) (phase : Phase) → phase_of h ≡ phase → timed.event ≡ SliceMsg slot message
    → (is_open phase && is_up (view_of policy slot h)) ≡ false → lane_by policy h timed ≡ []
lane_of_down policy h timed slot message Fresh at is down = rw (at, is) refl
lane_of_down policy h timed slot message Begun at is down = rw (at, is) refl
lane_of_down policy h timed slot message Gone at is down = rw at refl
lane_of_down policy h timed slot message Opened at is down =
    rw (at, is)
    (put_down (settings_in policy slot h) (view_of policy slot h) (side_of policy slot h).sight.came message timed.moment (is_slot policy slot) (slot == slot) (eq-eqb slot slot refl) down)

up_here : (policy : PolicyView) (slot : ℕ) (h : List Timed) (phase : Phase) → phase_of h ≡ phase → (is_open phase && is_up (view_of policy slot h)) ≡ true → is_slot policy slot ≡ true
up_here policy slot h Fresh at up = absurd (true≢false (sym up))
up_here policy slot h Begun at up = absurd (true≢false (sym up))
up_here policy slot h Gone at up = absurd (true≢false (sym up))
up_here policy slot h Opened at up = here_of policy slot h up

-- ---- what is sent

-- the packet-out, with the switch's number where it names a packet
pub rendered_out : (came : List ℕ) (m : PacketOut) (named : Option HeldPacket)
    → rendered came (SendsOut m (option_map (λ packet. packet.ordinal) named)) ≡ spell_packet_out (elim named [ None ↦ m | Some packet ↦ record m { buffer = number_it_came_with came packet.ordinal } ])
rendered_out came m None = refl
rendered_out came m (Some packet) = refl

pub lane_whole : (policy : PolicyView) (h : List Timed) (timed : Timed) (slot : ℕ) (message : List ℕ) (m : FlowMod) → timed.event ≡ SliceMsg slot message → is_slice_up policy slot h ≡ true
    → IsPermitted policy slot h timed.moment message m → lane_by policy h timed ≡ map spell_flow_mod (flow_mods_at policy slot h m)
lane_whole policy h timed slot message m is up p =
    let s = settings_in policy slot h in
    let view = view_of policy slot h in
    let came = (side_of policy slot h).sight.came in
    lane_of_up policy h timed slot message (phase_of h) refl is up
    ∙ ap (map (rendered came)) (put_whole s view (past_of s view) timed.moment message m (record { read = p.read; rate = p.rate; no_fault = p.no_fault }))
    ∙ rendered_sent came (ground_in policy slot h) m

pub out_lane_whole : (policy : PolicyView) (h : List Timed) (timed : Timed) (slot : ℕ) (message : List ℕ) (m : PacketOut) → timed.event ≡ SliceMsg slot message → is_slice_up policy slot h ≡ true
    → IsPermittedOut policy slot h timed.moment message m → lane_by policy h timed ≡ spell_packet_out (packet_out_at policy slot h m) ∷ []
out_lane_whole policy h timed slot message m is up p =
    let s = settings_in policy slot h in
    let view = view_of policy slot h in
    let came = (side_of policy slot h).sight.came in
    let g = ground_in policy slot h in
    lane_of_up policy h timed slot message (phase_of h) refl is up
    ∙ ap (map (rendered came)) (out_whole s view (past_of s view) timed.moment message m (record { read = p.read; rate = p.rate; no_fault = p.no_fault }))
    ∙ ap (λ (bytes : List ℕ). bytes ∷ []) (rendered_out came (packet_out_on g m) (packet_at g m.buffer))

-- a question is sent as it was put
question_lane_whole : (policy : PolicyView) (h : List Timed) (timed : Timed) (slot : ℕ) (message question : List ℕ) (asked : FromController) → timed.event ≡ SliceMsg slot message → is_slice_up policy slot h ≡ true
    → message_read (settings_in policy slot h) message ≡ Ok asked → KeepsRate policy slot h timed.moment → IsInquirySent (ground_in policy slot h) asked question → lane_by policy h timed ≡ question ∷ []
question_lane_whole policy h timed slot message question asked is up read rate may =
    let s = settings_in policy slot h in
    let view = view_of policy slot h in
    let came = (side_of policy slot h).sight.came in
    let one = question_whole s view (past_of s view) timed.moment message asked question (record { read = read; rate = rate; may = may }) in
    lane_of_up policy h timed slot message (phase_of h) refl is up ∙ ap (map (rendered came)) one.2 ∙ ap (λ (bytes : List ℕ). bytes ∷ []) (sym one.1)

-- a flow-mod, a packet-out or a question is permitted, and with it what is sent for the question
abbrev IsAnyPut : PolicyView → ℕ → List Timed → ℕ → List ℕ → Type 0
IsAnyPut policy slot h moment message =
    ((m : FlowMod) × IsPermitted policy slot h moment message m)
    ⊎ (((m : PacketOut) × IsPermittedOut policy slot h moment message m)
    ⊎ ((asked : FromController) × (question : List ℕ) × (message_read (settings_in policy slot h) message ≡ Ok asked) × KeepsRate policy slot h moment × IsInquirySent (ground_in policy slot h) asked question))

lane_or_some : (policy : PolicyView) (h : List Timed) (timed : Timed) (slot : ℕ) (message : List ℕ) → timed.event ≡ SliceMsg slot message
    → (lane_by policy h timed ≡ []) ⊎ ((is_slice_up policy slot h ≡ true) × IsAnyPut policy slot h timed.moment message)
lane_or_some policy h timed slot message is =
    let s = settings_in policy slot h in
    let view = view_of policy slot h in
    let came = (side_of policy slot h).sight.came in
    elim (cases_Bool (is_slice_up policy slot h)) [
      | inr down ↦ inl (lane_of_down policy h timed slot message (phase_of h) refl is down)
      | inl up ↦
          elim (put_or_none s view (past_of s view) timed.moment message) [
            | inl none ↦ inl (lane_of_up policy h timed slot message (phase_of h) refl is up ∙ ap (map (rendered came)) none)
            | inr (inl some) ↦ inr (up, inl (some.0, record { read = some.1.read; rate = some.1.rate; no_fault = some.1.no_fault }))
            | inr (inr (inl some)) ↦ inr (up, inr (inl (some.0, record { read = some.1.read; rate = some.1.rate; no_fault = some.1.no_fault })))
            | inr (inr (inr some)) ↦ inr (up, inr (inr (some.0, some.1, some.2.read, some.2.rate, some.2.may)))
          ]
    ]

-- ---- by what the switch said of itself

-- what a message is answered by where the switch said this
abbrev pub ground_by : PolicyView → ℕ → List Timed → Option Features → Ground
ground_by policy slot h told = ground_of (settings_at policy slot told) (view_of policy slot h) (past_of (settings_at policy slot told) (view_of policy slot h))

-- what is sent for a flow-mod
abbrev pub flow_mods_by : PolicyView → ℕ → List Timed → Ground → FlowMod → List FlowMod
flow_mods_by policy slot h g m = flow_mods_numbered (side_of policy slot h).sight.came g m

-- and for a packet-out
abbrev pub packet_out_by : PolicyView → ℕ → List Timed → Ground → PacketOut → PacketOut
packet_out_by policy slot h g m = out_with (side_of policy slot h).sight.came g m (packet_at g m.buffer)

some_told : (told : Option Features) → has_told told ≡ true → (features : Features) × (told ≡ Some features)
some_told None is = absurd (true≢false (sym is))
some_told (Some features) is = (features, refl)

-- where a slice is up the switch has said what it is
pub told_up : (policy : PolicyView) (slot : ℕ) (h : List Timed) → is_slice_up policy slot h ≡ true → (features : Features) × (opening_of h ≡ Some features)
told_up policy slot h up = some_told (opening_of h) (opened_told h (and_parts (is_open (phase_of h)) (is_up (view_of policy slot h)) up).0)

-- what holds of all that a slice can have sent: of the flow-mods, of the packet-outs, and of the questions
pub record HoldsOfSent (P : List Rule → FlowMod → Type 0) (Q : List Rule → PacketOut → Type 0) (R : List Rule → List ℕ → Type 0) (policy : PolicyView) (slot : ℕ) (h : List Timed) (message : List ℕ) : Type 0 where
  pub flow_mods : (features : Features) → opening_of h ≡ Some features → is_slot policy slot ≡ true → (m : FlowMod) → message_read (settings_at policy slot (Some features)) message ≡ Ok (said.FlowMod m)
      → flow_mod_fault (ground_by policy slot h (Some features)) m ≡ None → All (P (rules_on features.datapath policy.rules)) (flow_mods_by policy slot h (ground_by policy slot h (Some features)) m)
  pub packet_outs : (features : Features) → opening_of h ≡ Some features → is_slot policy slot ≡ true → (m : PacketOut) → message_read (settings_at policy slot (Some features)) message ≡ Ok (said.PacketOut m)
      → packet_out_fault (ground_by policy slot h (Some features)) m ≡ None → Q (rules_on features.datapath policy.rules) (packet_out_by policy slot h (ground_by policy slot h (Some features)) m)
  pub questions : (features : Features) → opening_of h ≡ Some features → is_slot policy slot ≡ true → (asked : FromController) (question : List ℕ) → message_read (settings_at policy slot (Some features)) message ≡ Ok asked
      → IsInquirySent (ground_by policy slot h (Some features)) asked question → R (rules_on features.datapath policy.rules) question

-- a message is spelled from a flow-mod of which one thing holds, or from a packet-out of which another does
abbrev pub IsSpelled : (FlowMod → Type 0) → (PacketOut → Type 0) → List ℕ → Type 0
IsSpelled OfFlowMod OfPacketOut message = ((m : FlowMod) × (message ≡ spell_flow_mod m) × OfFlowMod m) ⊎ ((m : PacketOut) × (message ≡ spell_packet_out m) × OfPacketOut m)

-- holds of each message
pub each_in_lane : (P : List Rule → FlowMod → Type 0) (Q : List Rule → PacketOut → Type 0) (R : List Rule → List ℕ → Type 0) (policy : PolicyView) (h : List Timed) (timed : Timed) (slot : ℕ) (message : List ℕ) → timed.event ≡ SliceMsg slot message
    → HoldsOfSent P Q R policy slot h message → All (λ sent. IsSpelled (P (rules_in policy h)) (Q (rules_in policy h)) sent ⊎ R (rules_in policy h) sent) (lane_by policy h timed)
each_in_lane P Q R policy h timed slot message is holds =
    let Each = λ (sent : List ℕ). IsSpelled (P (rules_in policy h)) (Q (rules_in policy h)) sent ⊎ R (rules_in policy h) sent in
    elim (lane_or_some policy h timed slot message is) [
      | inl none ↦ rw none (All-nil Each)
      | inr (up, inl some) ↦
          let m = some.0 in
          let told = told_up policy slot h up in
          let ms = flow_mods_at policy slot h m in
          let no_fault = subst (λ (found : Option Features). flow_mod_fault (ground_by policy slot h found) m ≡ None) told.1 some.1.no_fault in
          let all = holds.flow_mods told.0 told.1 (up_here policy slot h (phase_of h) refl up) m (subst (λ (found : Option Features). message_read (settings_at policy slot found) message ≡ Ok (said.FlowMod m)) told.1 some.1.read) no_fault in
          let each : All (P (rules_in policy h)) ms =
          subst (λ (found : Option Features). All (P (rules_of policy found)) (flow_mods_by policy slot h (ground_by policy slot h found) m)) (sym told.1) all in
          rw (lane_whole policy h timed slot message m is up some.1)
          (All-map Each spell_flow_mod ms
          (All-weaker (P (rules_in policy h)) (λ sent. Each (spell_flow_mod sent)) (λ sent own. inl (inl (sent, refl, own))) ms each))
      | inr (up, inr (inl some)) ↦
          let m = some.0 in
          let told = told_up policy slot h up in
          let no_fault = subst (λ (found : Option Features). packet_out_fault (ground_by policy slot h found) m ≡ None) told.1 some.1.no_fault in
          let one = holds.packet_outs told.0 told.1 (up_here policy slot h (phase_of h) refl up) m (subst (λ (found : Option Features). message_read (settings_at policy slot found) message ≡ Ok (said.PacketOut m)) told.1 some.1.read) no_fault in
          let sent : Q (rules_in policy h) (packet_out_at policy slot h m) =
          subst (λ (found : Option Features). Q (rules_of policy found) (packet_out_by policy slot h (ground_by policy slot h found) m)) (sym told.1) one in
          rw (out_lane_whole policy h timed slot message m is up some.1)
          (All-cons Each (spell_packet_out (packet_out_at policy slot h m)) [] (inl (inr (packet_out_at policy slot h m, refl, sent))) (All-nil Each))
      | inr (up, inr (inr some)) ↦
          let told = told_up policy slot h up in
          let may = subst (λ (found : Option Features). IsInquirySent (ground_by policy slot h found) some.0 some.1) told.1 some.4 in
          let one = holds.questions told.0 told.1 (up_here policy slot h (phase_of h) refl up) some.0 some.1 (subst (λ (found : Option Features). message_read (settings_at policy slot found) message ≡ Ok some.0) told.1 some.2) may in
          let sent : R (rules_in policy h) some.1 = subst (λ (found : Option Features). R (rules_of policy found) some.1) (sym told.1) one in
          rw (question_lane_whole policy h timed slot message some.1 some.0 is up some.2 some.3 some.4) (All-cons Each some.1 [] (inr sent) (All-nil Each))
    ]

-- ---- the settings of a slice

pub slot_is : (policy : PolicyView) (slot : ℕ) (told : Option Features) (found : Option Slice) → slice_get policy.slices slot ≡ found → (settings_at policy slot told).slot ≡ slot
slot_is policy slot told None is = rw (is, settings_at) refl
slot_is policy slot told (Some slice) is = rw (is, settings_at) refl

pub patterns_are : (policy : PolicyView) (slot : ℕ) (told : Option Features) → is_slot policy slot ≡ true → (settings_at policy slot told).patterns ≡ writes_of (rules_of policy told) slot
patterns_are policy slot told here = elim (slice_get_cases policy.slices slot).1 [
  | inl some ↦ rw (some.2, settings_at) refl
  | inr none ↦ absurd (true≢false (sym here ∙ le-ltb slot (length policy.slices) none.0))
]

pub pieces_are : (policy : PolicyView) (h : List Timed) (slot : ℕ) (m : FlowMod) → is_slice_up policy slot h ≡ true → pieces_on (ground_in policy slot h) m ≡ pieces_of (rules_in policy h) slot m.pattern
pieces_are policy h slot m up = ap (λ patterns. pieces_within patterns m.pattern) (patterns_are policy slot (opening_of h) (up_here policy slot h (phase_of h) refl up))

-- ---- questions that are permitted

module _ (policy : PolicyView) (h : List Timed) (timed : Timed) (slot : ℕ) (message : List ℕ) (is : timed.event ≡ SliceMsg slot message) where
  -- nothing else is sent for a slice
  pub lane_or_none : (lane_by policy h timed ≡ []) ⊎ ((is_slice_up policy slot h ≡ true) × IsAnyPermitted policy slot h timed.moment message)
  lane_or_none = elim (lane_or_some policy h timed slot message is) [
    | inl none ↦ inl none
    | inr (up, inl some) ↦ inr (up, inl some)
    | inr (up, inr (inl some)) ↦ inr (up, inr (inl some))
    | inr (up, inr (inr some)) ↦
        let here = up_here policy slot h (phase_of h) refl up in
        let may = may_be (ground_in policy slot h) (rules_in policy h) slot (slot_is policy slot (opening_of h) _ refl) (patterns_are policy slot (opening_of h) here) message some.1 some.0 some.4 in
        inr (up, inr (inr (some.0, record { read = some.2; rate = some.3; may = may })))
  ]

  module _ (up : is_slice_up policy slot h ≡ true) where
    abbrev next_xid : ℕ
    next_xid = (ground_in policy slot h).xid

    abbrev turned : List ℕ
    turned = message_turned (settings_in policy slot h) message

    pub statistics_sent : (request asked : StatsRequest) → IsPermittedInquiry policy slot h timed.moment message (said.StatsRequest request) → asked_as request ≡ Some asked → lane_by policy h timed ≡ spell_request asked next_xid ∷ []
    statistics_sent request asked p sent =
        question_lane_whole policy h timed slot message (spell_request asked next_xid) (said.StatsRequest request) is up p.read p.rate
        (may_ask_own p.may.1, ap (option_map (λ sent_. spell_request sent_ next_xid)) sent)
      where
        may_ask_own : AsksOwnPort (rules_in policy h) slot request → may_ask (ground_in policy slot h) request ≡ true
        may_ask_own own =
            own_may (ground_in policy slot h) (rules_in policy h) slot (slot_is policy slot (opening_of h) _ refl) (patterns_are policy slot (opening_of h) (up_here policy slot h (phase_of h) refl up)) request own

    pub barrier_sent : IsPermittedInquiry policy slot h timed.moment message said.BarrierRequest → lane_by policy h timed ≡ message_of BARRIER_REQUEST next_xid [] ∷ []
    barrier_sent p = question_lane_whole policy h timed slot message (message_of BARRIER_REQUEST next_xid []) said.BarrierRequest is up p.read p.rate refl

    pub queues_sent : (queues : QueuesQuestion) → IsPermittedInquiry policy slot h timed.moment message (said.QueueGetConfigRequest queues) → lane_by policy h timed ≡ spell_queues_request next_xid queues ∷ []
    queues_sent queues p =
        question_lane_whole policy h timed slot message (spell_queues_request next_xid queues) (said.QueueGetConfigRequest queues) is up p.read p.rate
        (owns (ground_in policy slot h) (rules_in policy h) slot (slot_is policy slot (opening_of h) _ refl) (patterns_are policy slot (opening_of h) (up_here policy slot h (phase_of h) refl up)) queues.port p.may, refl)

    pub queues_passed : (queues : QueuesQuestion) → All (λ byte. byte < 256) message → IsPermittedInquiry policy slot h timed.moment message (said.QueueGetConfigRequest queues)
        → lane_by policy h timed ≡ message_of QUEUE_GET_CONFIG_REQUEST next_xid (drop 8 turned) ∷ []
    queues_passed queues bytes p = queues_sent queues p ∙ ap (λ (sent : List ℕ). sent ∷ []) (question_passed next_xid turned queues (turn_in_bytes (settings_in policy slot h).swaps message bytes) (queues_as_read turned queues p.read))

-- ---- one flow-mod for each piece

-- the number that a piece's flow-mod carries: none, or that of the packet that is named where the piece has the packet's header
abbrev pub MayCarry : List ℕ → Option HeldPacket → Pattern → ℕ → Type 0
MayCarry came named piece buffer = (buffer ≡ NO_BUFFER) ⊎ ((packet : HeldPacket) × (named ≡ Some packet) × (buffer ≡ number_it_came_with came packet.ordinal) × (has piece packet.header ≡ true))

carries_at : (came : List ℕ) (packet : HeldPacket) (pieces : List Pattern) (k : ℕ) (d : Pattern) (place : Option ℕ) → piece_place packet.header pieces ≡ place
    → MayCarry came (Some packet) (get_or pieces k d) (buffer_at (option_map (λ (own : ℕ × ℕ). (own.0, number_it_came_with came own.1)) (option_map (λ (first : ℕ). (first, packet.ordinal)) place)) k)
carries_at came packet pieces k d None is = inl refl
carries_at came packet pieces k d (Some place) is = elim (eqb_tells place k) [
  | inl here ↦
      let found : has (get_or pieces place d) packet.header ≡ true = (position-Some (λ piece. has piece packet.header) pieces place d is).1 in
      rw here.0 (inr (packet, refl, refl, subst (λ n. has (get_or pieces n d) packet.header ≡ true) here.1 found))
  | inr other ↦ rw other.0 (inl refl)
]

carries : (came : List ℕ) (named : Option HeldPacket) (pieces : List Pattern) (k : ℕ) (d : Pattern)
    → MayCarry came named (get_or pieces k d) (buffer_at (option_map (λ (own : ℕ × ℕ). (own.0, number_it_came_with came own.1)) (carrier_of named pieces)) k)
carries came None pieces k d = inl refl
carries came (Some packet) pieces k d = carries_at came packet pieces k d (piece_place packet.header pieces) refl

-- the list of a piece
abbrev pub list : Ground → FlowMod → Pattern → List Action
list g m piece = if is_delete m then [] else list_given (permitted_on g m piece)

-- what holds of the flow-mod of each piece holds of all
pub each_on : (P : FlowMod → Type 0) (came : List ℕ) (g : Ground) (m : FlowMod) (patterns : List Pattern) → g.patterns ≡ patterns
    → All (λ piece. (buffer : ℕ) → MayCarry came (named_packet g m) piece buffer → P (piece_message m g.xid piece (list g m piece) buffer)) (pieces_within patterns m.pattern)
    → All P (flow_mods_numbered came g m)
each_on P came g m patterns is each =
    let carrier = numbered came (carrier_of (named_packet g m) (pieces_on g m)) in
    let own : All (λ piece. (buffer : ℕ) → MayCarry came (named_packet g m) piece buffer → P (piece_message m g.xid piece (list g m piece) buffer)) (pieces_on g m) =
    subst (λ ps. All (λ piece. (buffer : ℕ) → MayCarry came (named_packet g m) piece buffer → P (piece_message m g.xid piece (list g m piece) buffer)) (pieces_within ps m.pattern)) (sym is) each in
    each_sent P m g.xid (list g m) carrier 0 (pieces_on g m)
    (λ k d within.
    let piece = get_or (pieces_on g m) k d in
    subst (λ n. P (piece_message m g.xid piece (list g m piece) (buffer_at carrier n))) {x = k} {y = 0 + k} (omega arith)
    (own k d within (buffer_at carrier k) (carries came (named_packet g m) (pieces_on g m) k d)))

-- ---- ports and actions

own_ports_are : (rules : List Rule) (slot own_slot : ℕ) (patterns : List Pattern) (known : List (List ℕ)) → own_slot ≡ slot → patterns ≡ writes_of rules slot
    → ports_of_slice (lone_rules own_slot patterns) own_slot known ≡ ports_of_slice rules slot known
own_ports_are rules slot own_slot patterns known is_slot patterns_are = rw (is_slot, patterns_are) (same_ports slot rules known)

-- the ports that the slice knows are its own of the known ones
ports_are : (policy : PolicyView) (slot : ℕ) (h : List Timed) (features : Features) → opening_of h ≡ Some features → is_slot policy slot ≡ true
    → known_ports (view_of policy slot h) ≡ ports_of_slice (rules_on features.datapath policy.rules) slot (ports_after h)
ports_are policy slot h features is here =
    let s = settings_at policy slot (Some features) in
    let has : HasSeen policy slot features (ports_after h) (view_of policy slot h) = seen policy slot h features is here in
    has.ports_known
    ∙ own_ports_are (rules_on features.datapath policy.rules) slot s.slot s.patterns (ports_after h) (slot_is policy slot (Some features) (slice_get policy.slices slot) refl) (patterns_are policy slot (Some features) here)

-- by the rules of the switch and these ports the actions are judged
judged : (policy : PolicyView) (slot : ℕ) (h : List Timed) (features : Features) → opening_of h ≡ Some features → is_slot policy slot ≡ true → (origin : Origin) (actions : List Action)
    → permitted (lone_rules (settings_at policy slot (Some features)).slot (settings_at policy slot (Some features)).patterns) (settings_at policy slot (Some features)).slot origin actions
    (flooded false (known_ports (view_of policy slot h))) (flooded true (known_ports (view_of policy slot h)))
    ≡ permitted (rules_on features.datapath policy.rules) slot origin actions
    (flooded false (ports_of_slice (rules_on features.datapath policy.rules) slot (ports_after h))) (flooded true (ports_of_slice (rules_on features.datapath policy.rules) slot (ports_after h)))
judged policy slot h features is here origin actions =
    let s = settings_at policy slot (Some features) in
    permitted_alike (rules_on features.datapath policy.rules) slot s.slot s.patterns (known_ports (view_of policy slot h)) (ports_after h) origin actions
    (slot_is policy slot (Some features) (slice_get policy.slices slot) refl) (patterns_are policy slot (Some features) here) (ports_are policy slot h features is here)

-- the same by whatever the switch said
judged_by : (policy : PolicyView) (slot : ℕ) (h : List Timed) → is_slice_up policy slot h ≡ true → (origin : Ground → Origin) (actions : List Action)
    → permitted (lone_rules (settings_in policy slot h).slot (settings_in policy slot h).patterns) (settings_in policy slot h).slot (origin (ground_in policy slot h)) actions
    (flooded false (known_ports (view_of policy slot h))) (flooded true (known_ports (view_of policy slot h)))
    ≡ permitted (rules_in policy h) slot (origin (ground_in policy slot h)) actions (flooded false (ports_shown policy slot h)) (flooded true (ports_shown policy slot h))
judged_by policy slot h up origin actions =
    let told = told_up policy slot h up in
    let here = up_here policy slot h (phase_of h) refl up in
    subst (λ (found : Option Features).
    permitted (lone_rules (settings_at policy slot found).slot (settings_at policy slot found).patterns) (settings_at policy slot found).slot (origin (ground_by policy slot h found)) actions
    (flooded false (known_ports (view_of policy slot h))) (flooded true (known_ports (view_of policy slot h)))
    ≡ permitted (rules_of policy found) slot (origin (ground_by policy slot h found)) actions
    (flooded false (ports_of_slice (rules_of policy found) slot (ports_after h))) (flooded true (ports_of_slice (rules_of policy found) slot (ports_after h))))
    (sym told.1) (judged policy slot h told.0 told.1 here (origin (ground_by policy slot h (Some told.0))) actions)

pub actions_are : (policy : PolicyView) (h : List Timed) (slot : ℕ) (m : FlowMod) (piece : Pattern) → is_slice_up policy slot h ≡ true
    → permitted_on (ground_in policy slot h) m piece ≡ permitted (rules_in policy h) slot (Piece piece) m.actions (flooded false (ports_shown policy slot h)) (flooded true (ports_shown policy slot h))
actions_are policy h slot m piece up = judged_by policy slot h up (λ g. Piece piece) m.actions

pub out_actions_are : (policy : PolicyView) (h : List Timed) (slot : ℕ) (m : PacketOut) → is_slice_up policy slot h ≡ true
    → permitted_out (ground_in policy slot h) m
    ≡ permitted (rules_in policy h) slot (origin_with (packet_at (ground_in policy slot h) m.buffer) m) m.actions (flooded false (ports_shown policy slot h)) (flooded true (ports_shown policy slot h))
out_actions_are policy h slot m up = judged_by policy slot h up (λ g. origin_with (packet_at g m.buffer) m) m.actions

-- what holds of the lists that a slice may have for an origin holds of the one that it has
pub lists_hold : (P : List Action → Type 0) (policy : PolicyView) (slot : ℕ) (h : List Timed) (features : Features) → opening_of h ≡ Some features → is_slot policy slot ≡ true
    → (origin : Origin) (actions : List Action) → HoldsOfLists P (rules_on features.datapath policy.rules) slot origin actions
    → P (list_given (permitted (lone_rules (settings_at policy slot (Some features)).slot (settings_at policy slot (Some features)).patterns) (settings_at policy slot (Some features)).slot origin actions
    (flooded false (known_ports (view_of policy slot h))) (flooded true (known_ports (view_of policy slot h)))))
lists_hold P policy slot h features is here origin actions holds =
    let s = settings_at policy slot (Some features) in
    given_holds P (rules_on features.datapath policy.rules) slot s.slot s.patterns (known_ports (view_of policy slot h)) (ports_after h) origin actions
    (slot_is policy slot (Some features) (slice_get policy.slices slot) refl) (patterns_are policy slot (Some features) here) (ports_are policy slot h features is here) holds

-- so it holds of the actions that are sent for a piece
pub actions_hold : (P : List Action → Type 0) (policy : PolicyView) (slot : ℕ) (h : List Timed) (features : Features) → opening_of h ≡ Some features → is_slot policy slot ≡ true
    → (m : FlowMod) (xid : ℕ) (piece : Pattern) (buffer : ℕ) → HoldsOfLists P (rules_on features.datapath policy.rules) slot (Piece piece) m.actions
    → P (piece_message m xid piece (list (ground_by policy slot h (Some features)) m piece) buffer).actions
actions_hold P policy slot h features is here m xid piece buffer holds =
    let g = ground_by policy slot h (Some features) in
    sent_holds P m xid piece (list g m piece) buffer holds.none
    (either P (is_delete m) [] (list_given (permitted_on g m piece)) holds.none (lists_hold P policy slot h features is here (Piece piece) m.actions holds))

-- each action of such a list sends where it may
pub ways_hold : (policy : PolicyView) (slot : ℕ) (h : List Timed) (features : Features) → opening_of h ≡ Some features → is_slot policy slot ≡ true → (m : PacketOut) (origin : Origin)
    → All (HasWay (rules_on features.datapath policy.rules) slot origin) (list_for (ground_by policy slot h (Some features)) m origin)
ways_hold policy slot h features is here m origin =
    let rules = rules_on features.datapath policy.rules in
    lists_hold (All (HasWay rules slot origin)) policy slot h features is here origin m.actions (record {
      none = All-nil (HasWay rules slot origin);
      some = λ flood all given on_flood on_all permits. permitted_ways rules slot origin m.actions flood all given on_flood on_all permits;
    })

-- ---- the law on the flowspace

lies_on : (policy : PolicyView) → IsPolicy policy.slices policy.rules → (slot : ℕ) (h : List Timed) (features : Features) → is_slot policy slot ≡ true → (m : FlowMod)
    → All (LiesInFlowspace (rules_on features.datapath policy.rules) slot) (flow_mods_by policy slot h (ground_by policy slot h (Some features)) m)
lies_on policy accepted slot h features here m =
    let g = ground_by policy slot h (Some features) in
    let rules = rules_on features.datapath policy.rules in
    let P = LiesInFlowspace rules slot in
    let came = (side_of policy slot h).sight.came in
    each_on P came g m (writes_of rules slot) (patterns_are policy slot (Some features) here)
    (All-weaker (Owns rules slot) (λ piece. (buffer : ℕ) → MayCarry came (named_packet g m) piece buffer → P (piece_message m g.xid piece (list g m piece) buffer))
    (λ piece owns buffer carrying. sent_within policy.slices rules (IsSwitchPolicy-rules_on policy.slices policy.rules features.datapath accepted) slot m g.xid piece (list g m piece) buffer owns)
    (pieces_of rules slot m.pattern) (Owns-pieces_of rules slot m.pattern))

-- under the number of each packet that is held there is a header that the slice writes
pub held_written : (policy : PolicyView) (slot : ℕ) (h : List Timed) (features : Features) → opening_of h ≡ Some features → is_slot policy slot ≡ true
    → All (λ packet. (header : Header) × IsBufferHeader h (switch_number policy slot h packet.ordinal) header × Writes (rules_on features.datapath policy.rules) slot header) (ground_by policy slot h (Some features)).held
held_written policy slot h features is here =
    let g = ground_by policy slot h (Some features) in
    let rules = rules_on features.datapath policy.rules in
    All-weaker (λ packet. IsKept policy slot rules h (switch_number policy slot h packet.ordinal) packet)
    (λ packet. (header : Header) × IsBufferHeader h (switch_number policy slot h packet.ordinal) header × Writes rules slot header)
    (λ packet kept. (header_in kept.arrival.packet, ap (option_map (λ arrival. header_in arrival.packet)) kept.is_last, kept.written))
    g.held (kept_now policy slot (settings_at policy slot (Some features)) h features here is)

pub out_lies_on : (policy : PolicyView) → IsPolicy policy.slices policy.rules → (slot : ℕ) (h : List Timed) (features : Features) → opening_of h ≡ Some features → is_slot policy slot ≡ true → (m : PacketOut)
    → packet_out_fault (ground_by policy slot h (Some features)) m ≡ None
    → SendsOwnPacket (IsBufferHeader h) (rules_on features.datapath policy.rules) slot (packet_out_by policy slot h (ground_by policy slot h (Some features)) m)
out_lies_on policy accepted slot h features is here m none =
    let g = ground_by policy slot h (Some features) in
    let rules = rules_on features.datapath policy.rules in
    let came = (side_of policy slot h).sight.came in
    out_holds (SendsOwnPacket (IsBufferHeader h) rules slot) came g m none
    (out_lies (IsBufferHeader h) policy.slices rules (IsSwitchPolicy-rules_on policy.slices policy.rules features.datapath accepted) came g slot m
    (slot_is policy slot (Some features) (slice_get policy.slices slot) refl) (patterns_are policy slot (Some features) here) (held_written policy slot h features is here))

pub all_lie : (policy : PolicyView) → IsPolicy policy.slices policy.rules → (h : List Timed) (slot : ℕ) (message : List ℕ)
    → HoldsOfSent (λ rules. LiesInFlowspace rules slot) (λ rules. SendsOwnPacket (IsBufferHeader h) rules slot) (λ rules. AsksForReply) policy slot h message
all_lie policy accepted h slot message = record {
  questions = λ features opened here asked question read may. asks_for_reply (ground_by policy slot h (Some features)) (message_turned (settings_at policy slot (Some features)) message) question asked read may;
  flow_mods = λ features opened here m read none. lies_on policy accepted slot h features here m;
  packet_outs = λ features opened here m read none. out_lies_on policy accepted slot h features opened here m none;
}

-- ---- the law on ports

outputs_on : (policy : PolicyView) (slot : ℕ) (h : List Timed) (features : Features) → opening_of h ≡ Some features → is_slot policy slot ≡ true → (m : FlowMod)
    → All (OutputsToOwnPorts (rules_on features.datapath policy.rules) slot) (flow_mods_by policy slot h (ground_by policy slot h (Some features)) m)
outputs_on policy slot h features is here m =
    let g = ground_by policy slot h (Some features) in
    let rules = rules_on features.datapath policy.rules in
    let P = All (NamesOwnPort rules slot) in
    each_on (OutputsToOwnPorts rules slot) (side_of policy slot h).sight.came g m (writes_of rules slot) (patterns_are policy slot (Some features) here)
    (λ k d within buffer carrying.
    let piece = get_or (pieces_of rules slot m.pattern) k d in
    actions_hold P policy slot h features is here m g.xid piece buffer (record {
      none = All-nil (NamesOwnPort rules slot);
      some = λ flood all given on_flood on_all permits. permitted_own rules slot piece m.actions flood all given on_flood on_all permits;
    }))

pub out_outputs_on : (policy : PolicyView) (slot : ℕ) (h : List Timed) (features : Features) → opening_of h ≡ Some features → is_slot policy slot ≡ true → (m : PacketOut)
    → packet_out_fault (ground_by policy slot h (Some features)) m ≡ None → SendsToOwnPorts (rules_on features.datapath policy.rules) slot (packet_out_by policy slot h (ground_by policy slot h (Some features)) m)
out_outputs_on policy slot h features is here m none =
    let g = ground_by policy slot h (Some features) in
    let rules = rules_on features.datapath policy.rules in
    let came = (side_of policy slot h).sight.came in
    out_holds (SendsToOwnPorts rules slot) came g m none (out_outputs rules came g slot m (ways_hold policy slot h features is here m))

pub all_output : (policy : PolicyView) (h : List Timed) (slot : ℕ) (message : List ℕ) → HoldsOfSent (λ rules. OutputsToOwnPorts rules slot) (λ rules. SendsToOwnPorts rules slot) (λ rules. AsksForReply) policy slot h message
all_output policy h slot message = record {
  questions = λ features opened here asked question read may. asks_for_reply (ground_by policy slot h (Some features)) (message_turned (settings_at policy slot (Some features)) message) question asked read may;
  flow_mods = λ features opened here m read none. outputs_on policy slot h features opened here m;
  packet_outs = λ features opened here m read none. out_outputs_on policy slot h features opened here m none;
}

-- ---- the law on flow tables

pub leaves : (rules : List Rule) (slot : ℕ) (m : FlowMod) → LiesInFlowspace rules slot m → LeavesOtherHeaders rules slot m
leaves rules slot m lies h range outside table = Treatment-Apply table m h (λ has. outside (lies h range has))

pub all_leave : (policy : PolicyView) → IsPolicy policy.slices policy.rules → (h : List Timed) (slot : ℕ) (message : List ℕ)
    → HoldsOfSent (λ rules. LeavesOtherHeaders rules slot) (λ rules. ChangesNoTable) (λ rules. AsksForReply) policy slot h message
all_leave policy accepted h slot message = record {
  questions = λ features opened here asked question read may. asks_for_reply (ground_by policy slot h (Some features)) (message_turned (settings_at policy slot (Some features)) message) question asked read may;
  flow_mods = λ features opened here m read none.
      let rules = rules_on features.datapath policy.rules in
      let ms = flow_mods_by policy slot h (ground_by policy slot h (Some features)) m in
      All-weaker (LiesInFlowspace rules slot) (LeavesOtherHeaders rules slot) (λ sent lies. leaves rules slot sent lies) ms (lies_on policy accepted slot h features here m);
  packet_outs = λ features opened here m read none. tt;
}

-- ---- the law on buffers

-- the number of a packet that is held is one of the slice's own
abbrev own_buffer : (policy : PolicyView) (slot : ℕ) (h : List Timed) (features : Features) (number : ℕ) (packet : HeldPacket) → opening_of h ≡ Some features
    → IsKept policy slot (rules_on features.datapath policy.rules) h number packet → IsOwnBuffer policy slot h number
own_buffer policy slot h features number packet is kept = record {
  arrival = kept.arrival;
  is_last = kept.is_last;
  given = kept.given;
  written = subst (λ (found : Option Features). Writes (rules_of policy found) slot (header_in kept.arrival.packet)) (sym is) kept.written;
}

buffer_sent : (m : FlowMod) (xid : ℕ) (piece : Pattern) (actions : List Action) (buffer : ℕ) → ((piece_message m xid piece actions buffer).buffer ≡ NO_BUFFER) ⊎ ((piece_message m xid piece actions buffer).buffer ≡ buffer)
unfolding piece_message
buffer_sent m xid piece actions buffer = either (λ n. (n ≡ NO_BUFFER) ⊎ (n ≡ buffer)) (is_delete m) NO_BUFFER buffer (inl refl) (inr refl)

module _ (policy : PolicyView) (slot : ℕ) (h : List Timed) (features : Features) (is : opening_of h ≡ Some features) (here : is_slot policy slot ≡ true) where
  abbrev pub rules : List Rule
  rules = rules_on features.datapath policy.rules

  abbrev pub ground : Ground
  ground = ground_by policy slot h (Some features)

  pub kept_all : All (λ packet. IsKept policy slot rules h (switch_number policy slot h packet.ordinal) packet) ground.held
  kept_all = kept_now policy slot (settings_at policy slot (Some features)) h features here is

  carried_sent : (sent : FlowMod) (piece : Pattern) (buffer : ℕ) (packet : HeldPacket) → sent.pattern ≡ piece → sent.buffer ≡ buffer → buffer ≡ switch_number policy slot h packet.ordinal → has piece packet.header ≡ true
      → IsKept policy slot rules h (switch_number policy slot h packet.ordinal) packet → CarriesOwnBuffer policy slot h sent
  carried_sent sent piece buffer packet on_pattern on_buffer on_number has_header kept =
      let number : switch_number policy slot h packet.ordinal ≡ sent.buffer = sym (on_buffer ∙ on_number) in
      let kept_there : IsKept policy slot rules h sent.buffer packet = subst (λ n. IsKept policy slot rules h n packet) number kept in
      let in_piece : Has piece packet.header = Has-has piece packet.header has_header in
      inr (own_buffer policy slot h features sent.buffer packet is kept_there, subst (λ header. Has sent.pattern header) kept_there.header (subst (λ p. Has p packet.header) (sym on_pattern) in_piece))

  pub packet_named : (m : FlowMod) (deletes : Bool) (packet : HeldPacket) → (if deletes then None else packet_at ground m.buffer) ≡ Some packet → IsKept policy slot rules h (switch_number policy slot h packet.ordinal) packet
  packet_named m true packet named = absurd cc
  packet_named m false packet named = packet_holds (λ held. IsKept policy slot rules h (switch_number policy slot h held.ordinal) held) ground m.buffer packet kept_all named

  buffers_on : (m : FlowMod) → All (CarriesOwnBuffer policy slot h) (flow_mods_by policy slot h ground m)
  buffers_on m =
      each_on (CarriesOwnBuffer policy slot h) (side_of policy slot h).sight.came ground m (writes_of rules slot) (patterns_are policy slot (Some features) here)
      (λ k d within buffer carrying.
      let piece = get_or (pieces_of rules slot m.pattern) k d in
      let sent = piece_message m ground.xid piece (list ground m piece) buffer in
      elim (buffer_sent m ground.xid piece (list ground m piece) buffer) [
        | inl none ↦ inl none
        | inr same ↦
            elim carrying [
              | inl none ↦ inl (same ∙ none)
              | inr (packet, named, number, has_header) ↦
                  carried_sent sent piece buffer packet (piece_is m ground.xid piece (list ground m piece) buffer) same number has_header (packet_named m (is_delete m) packet named)
            ]
      ])

  out_buffers_on : (m : PacketOut) → packet_out_fault ground m ≡ None → SendsOwnBuffer policy slot h (packet_out_by policy slot h ground m)
  out_buffers_on m none =
      out_holds (SendsOwnBuffer policy slot h) (side_of policy slot h).sight.came ground m none (record {
        held = λ packet named.
            inr (own_buffer policy slot h features (switch_number policy slot h packet.ordinal) packet is
            (packet_holds (λ held. IsKept policy slot rules h (switch_number policy slot h held.ordinal) held) ground m.buffer packet kept_all named));
        probe = λ comes probe. inl refl;
        carried = λ comes probe lies. inl refl;
      })

-- after every history the slice writes the header of each packet that it holds
pub held_are_written : (policy : PolicyView) (h : List Timed) (slot : ℕ) → HoldsWritten (rules_in policy h) slot (settings_in policy slot h) (side_of policy slot h).sight
held_are_written policy h slot = elim (cases_Bool (is_slot policy slot)) [
  | inl here ↦ by_opening here (opening_of h) refl
  | inr out ↦ none_seen (sees_nothing policy slot h out)
]
  where
    none_seen : (side_of policy slot h).sight ≡ side_start.sight → HoldsWritten (rules_in policy h) slot (settings_in policy slot h) (side_of policy slot h).sight
    none_seen is = subst (HoldsWritten (rules_in policy h) slot (settings_in policy slot h)) (sym is) (All-nil (λ (packet : HeldPacket). Writes (rules_in policy h) slot packet.header))

    by_opening : is_slot policy slot ≡ true → (found : Option Features) → opening_of h ≡ found → HoldsWritten (rules_in policy h) slot (settings_in policy slot h) (side_of policy slot h).sight
    by_opening here None is = none_seen (ap (λ (side : SliceSide). side.sight) (blind policy slot h is))
    by_opening here (Some features) is =
        let s = settings_in policy slot h in
        let rules = rules_on features.datapath policy.rules in
        subst (λ (found : Option Features). All (λ packet. Writes (rules_of policy found) slot packet.header) (held_packets (past_of s (view_of policy slot h)))) (sym is)
        (All-weaker (λ packet. IsKept policy slot rules h (switch_number policy slot h packet.ordinal) packet) (λ packet. Writes rules slot packet.header)
        (λ packet kept. subst (Writes rules slot) (sym kept.header) kept.written) (held_packets (past_of s (view_of policy slot h))) (kept_now policy slot s h features here is))

pub all_own : (policy : PolicyView) (h : List Timed) (slot : ℕ) (message : List ℕ) → HoldsOfSent (λ rules. CarriesOwnBuffer policy slot h) (λ rules. SendsOwnBuffer policy slot h) (λ rules. AsksForReply) policy slot h message
all_own policy h slot message = record {
  questions = λ features opened here asked question read may. asks_for_reply (ground_by policy slot h (Some features)) (message_turned (settings_at policy slot (Some features)) message) question asked read may;
  flow_mods = λ features opened here m read none. buffers_on policy slot h features opened here m;
  packet_outs = λ features opened here m read none. out_buffers_on policy slot h features opened here m none;
}
