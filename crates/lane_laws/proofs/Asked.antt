-- Questions for the switch: what a controller's message asks, what is sent for it, and what a switch reads of that.
use Rattle.std.proofs.Common.{◌≡◌, ◌⊎◌, refl, sym, ◌∙◌, ap, subst, ℕ, ◌+◌, ◌<◌, ◌^◌, ◌==◌, ◌||◌, nat_lt, inl, inr, Bool, true, false, if◌then◌else◌, List, [], length, drop, slice_index, eqb-true, Option, Some, None, is_some, option_map, Ok, Err, arith}
use Rattle.std.specs.Prelude.{IsSome}
use Rattle.std.proofs.Math.Bool.{or-true}
use Rattle.std.proofs.lemmas.Bool.{or_cases, eq-eqb}
use Rattle.std.proofs.lemmas.Option.{none-some, same_Some}
use Rattle.of10_model.specs.Normal.{number_at, match_at}
use Rattle.of10_model.proofs.Applied.{IsNormal-Norm}
use Rattle.of10_model.proofs.Ranges.{bytes-drop, bytes-take, number_at-lt}
use Rattle.of10_model.proofs.Results.{either, ok_is, passed}
use Rattle.of10_action.specs.declared.fault.WireFault.TheVariants.{Length, StatKind, StatVendor}
use Rattle.of10_ctl.specs.declared.kind.TheConstants.{STATS_REQUEST, BARRIER_REQUEST, QUEUE_GET_CONFIG_REQUEST}
use Rattle.of10_ctl.specs.Frames.{message_of}
use Rattle.of10_ctl.specs.Kinds.{IsOf}
use Rattle.of10_ctl.proofs.Reading.{IsOf-message}
use Rattle.of10_port.specs.declared.protocol.TheConstants.{NONE, ALL}
use Rattle.of10_stats.specs.declared.request.StatsRequest.{StatsRequest}
use Rattle.of10_stats.specs.declared.request.StatsRequest.TheVariants as statistics
use Rattle.of10_stats.specs.Requests.{IsRequest, request_of, read_request, spell_request, body_size}
use Rattle.of10_stats.proofs.Again.{IsOf-request, request_again}
use Rattle.of10_message.specs.declared.queues.QueuesQuestion.{QueuesQuestion}
use Rattle.of10_message.specs.Queues.{IsQueuesQuestion, read_queues_request}
use Rattle.of10_message.proofs.ConfigReadAgain.{question_read as queues_told, padding_read, question_kind}
use Rattle.of10_message.specs.declared.controller.FromController.{FromController}
use Rattle.of10_message.specs.declared.controller.FromController.TheVariants as said
use Rattle.of10_message.specs.Forms.{formed}
use Rattle.of10_message.specs.Controller.{read_controller}
use Rattle.of10_message.proofs.ControllerCases.{request_as_read, queues_as_read}
use Rattle.of10_message.proofs.ControllerTyped.{typed_by, request_typed, barrier_typed, question_read}
use Rattle.flowspace.specs.declared.rules.Rule.{Rule}
use Rattle.flowspace.specs.Owners.{HasPort, has_port}
use Rattle.flowspace.proofs.Owning.{has_port-iff}
use Rattle.flowmod_expand.specs.Pieces.{writes_of}
use Rattle.stats_filter.specs.Asking.{asked_as}
use Rattle.slice_words.specs.Items.{is_own_port}
use Rattle.slice_words.specs.FlowMods.{Ground}
use Rattle.slice_words.specs.Questions.{may_ask}
use Rattle.slice_words.proofs.LoneRules.{same_port}
use Rattle.flow_facts.specs.Inquiries.{AsksOwnPort, MayBeAsked}
use Rattle.flow_facts.specs.Messages.{AsksForReply, IsReadAsInquiry}
use Rattle.slice_side.specs.Checking.{IsInquirySent}

-- ---- ranges

-- a request that is made of bytes lies in its ranges
made_in_range : (kind : ℕ) (bytes : List ℕ) → ((k : ℕ) → slice_index bytes k < 256) → IsRequest (request_of kind bytes)
unfolding request_of
made_in_range kind bytes h =
    let pattern = IsNormal-Norm _ (bytes-take 40 (drop 12 bytes) (bytes-drop bytes 12 h)) in
    let port = number_at-lt bytes 12 2 h in
    either IsRequest (kind == 0) statistics.Desc _ tt
    (either IsRequest (kind == 1) (statistics.Flow (match_at bytes 12) (slice_index bytes 52) (number_at bytes 54 2)) _ (pattern, h 52, number_at-lt bytes 54 2 h)
    (either IsRequest (kind == 2) (statistics.Aggregate (match_at bytes 12) (slice_index bytes 52) (number_at bytes 54 2)) _ (pattern, h 52, number_at-lt bytes 54 2 h)
    (either IsRequest (kind == 3) statistics.Table _ tt
    (either IsRequest (kind == 4) (statistics.Port (number_at bytes 12 2)) (statistics.Queue (number_at bytes 12 2) (number_at bytes 16 4)) port (port, number_at-lt bytes 16 4 h)))))

read_in_range : (bytes : List ℕ) (r : StatsRequest) → ((k : ℕ) → slice_index bytes k < 256) → read_request bytes ≡ Ok r → IsRequest r
unfolding read_request
read_in_range bytes r h e =
    let kind = number_at bytes 8 2 in
    let fits = if length bytes == 12 + body_size kind then Ok (request_of kind bytes) else Err (Length (length bytes)) in
    let known = if nat_lt 5 kind then Err (StatKind kind) else fits in
    let long = passed (nat_lt (length bytes) 12) (Length (length bytes)) (if kind == 0xffff then Err StatVendor else known) r e in
    let plain = passed (kind == 0xffff) StatVendor known r long.1 in
    let few = passed (nat_lt 5 kind) (StatKind kind) fits r plain.1 in
    by_size (length bytes == 12 + body_size kind) few.1
  where
    by_size : (fits : Bool) → (if fits then Ok (request_of (number_at bytes 8 2) bytes) else Err (Length (length bytes))) ≡ Ok r → IsRequest r
    by_size true is = subst IsRequest (ok_is (request_of (number_at bytes 8 2) bytes) r is) (made_in_range (number_at bytes 8 2) bytes h)
    by_size false is = absurd cc

-- what the switch is asked for it lies in its ranges, too
asked_in_range : (request asked : StatsRequest) → asked_as request ≡ Some asked → IsRequest request → IsRequest asked
asked_in_range statistics.Table asked is h = absurd cc
asked_in_range statistics.Desc asked is h = subst IsRequest (same_Some statistics.Desc asked is) h
asked_in_range (statistics.Flow pattern table out_port) asked is h = subst IsRequest (same_Some (statistics.Flow pattern table out_port) asked is) h
asked_in_range (statistics.Aggregate pattern table out_port) asked is h = subst IsRequest (same_Some (statistics.Flow pattern table out_port) asked is) h
asked_in_range (statistics.Port port) asked is h = subst IsRequest (same_Some (statistics.Port port) asked is) h
asked_in_range (statistics.Queue port queue) asked is h = subst IsRequest (same_Some (statistics.Queue port queue) asked is) h

-- ---- what is sent

-- the request that the switch is asked
pub some_asked : (asked : Option StatsRequest) (xid : ℕ) (question : List ℕ) → option_map (λ sent. spell_request sent xid) asked ≡ Some question → (sent : StatsRequest) × (asked ≡ Some sent) × (question ≡ spell_request sent xid)
some_asked None xid question is = absurd cc
some_asked (Some sent) xid question is = (sent, refl, cc)

-- what was read of bytes that ask for queues is a question
question_is : (message : List ℕ) (queues : QueuesQuestion) → ((k : ℕ) → slice_index message k < 256) → read_queues_request message ≡ Ok queues → IsQueuesQuestion queues
question_is message queues bytes read = record {
  port = subst (λ (question : QueuesQuestion). question.port < 2 ^ 16) (sym (queues_told message queues read).1) (number_at-lt (drop 8 message) 0 2 (bytes-drop message 8 bytes));
  padding = padding_read message queues read;
}

-- a question asks for a reply
pub asks_for_reply : (g : Ground) (message question : List ℕ) (asked : FromController) → read_controller message ≡ Ok asked → IsInquirySent g asked question → AsksForReply question
asks_for_reply g message question (said.StatsRequest request) read is =
    let sent = some_asked (asked_as request) g.xid question is.1 in
    inl (subst (IsOf STATS_REQUEST) (sym sent.2) (IsOf-request sent.0 g.xid))
asks_for_reply g message question said.BarrierRequest read is = inr (inl (subst (IsOf BARRIER_REQUEST) (sym is) (IsOf-message BARRIER_REQUEST g.xid [] (omega arith))))
asks_for_reply g message question (said.QueueGetConfigRequest queues) read is =
    inr (inr (subst (IsOf QUEUE_GET_CONFIG_REQUEST) (sym is.1) (question_kind g.xid queues (padding_read message queues (queues_as_read message queues read)))))
asks_for_reply g message question _ read is = absurd is

-- ---- what a switch reads of it

request_read : (r : StatsRequest) (xid : ℕ) → IsRequest r → read_controller (spell_request r xid) ≡ Ok (said.StatsRequest r)
request_read r xid range =
    typed_by STATS_REQUEST (spell_request r xid) (IsOf-request r xid) refl ∙ request_typed (spell_request r xid) (IsOf-request r xid) ∙ ap (formed said.StatsRequest) (request_again r xid range)

barrier_read : (xid : ℕ) → read_controller (message_of BARRIER_REQUEST xid []) ≡ Ok said.BarrierRequest
barrier_read xid =
    let bytes = message_of BARRIER_REQUEST xid [] in
    let of = IsOf-message BARRIER_REQUEST xid [] (omega arith) in
    typed_by BARRIER_REQUEST bytes of refl ∙ barrier_typed bytes of

-- ---- ports

module _ (g : Ground) (rules : List Rule) (slot : ℕ) (on_slot : g.slot ≡ slot) (on_patterns : g.patterns ≡ writes_of rules slot) where
  pub port_on : (port : ℕ) → is_own_port g.slot g.patterns port ≡ has_port rules slot port
  port_on port = rw (on_slot, on_patterns) (same_port slot rules port)

  owned : (port : ℕ) → is_own_port g.slot g.patterns port ≡ true → HasPort rules slot port
  owned port is = (has_port-iff rules slot port).0 (sym (port_on port) ∙ is)

  pub owns : (port : ℕ) → HasPort rules slot port → is_own_port g.slot g.patterns port ≡ true
  owns port has = port_on port ∙ (has_port-iff rules slot port).1 has

  -- all ports are named, or one of the slice's
  by_all : (all port : ℕ) → (port == all || is_own_port g.slot g.patterns port) ≡ true → (port ≡ all) ⊎ HasPort rules slot port
  by_all all port is = elim (or_cases (port == all) (is_own_port g.slot g.patterns port) is) [ inl every ↦ inl (eqb-true port all every) | inr own ↦ inr (owned port own) ]

  all_by : (all port : ℕ) → (port ≡ all) ⊎ HasPort rules slot port → (port == all || is_own_port g.slot g.patterns port) ≡ true
  all_by all port (inl every) = rw (eq-eqb port all every) refl
  all_by all port (inr own) = rw (owns port own) (or-true (port == all))

  may_own : (request : StatsRequest) → may_ask g request ≡ true → AsksOwnPort rules slot request
  may_own (statistics.Port port) is = by_all NONE port is
  may_own (statistics.Queue port queue) is = by_all ALL port is
  may_own _ is = tt

  pub own_may : (request : StatsRequest) → AsksOwnPort rules slot request → may_ask g request ≡ true
  own_may (statistics.Port port) own = all_by NONE port own
  own_may (statistics.Queue port queue) own = all_by ALL port own
  own_may _ own = refl

  -- asked as single flows, it is for the same ports
  abbrev MaySend : StatsRequest → Type 0
  MaySend asked = IsSome (asked_as asked) × AsksOwnPort rules slot asked

  asks_same : (request asked : StatsRequest) → asked_as request ≡ Some asked → AsksOwnPort rules slot request → MaySend asked
  asks_same statistics.Desc asked is own = subst MaySend (same_Some statistics.Desc asked is) (refl, tt)
  asks_same (statistics.Flow pattern table out_port) asked is own = subst MaySend (same_Some (statistics.Flow pattern table out_port) asked is) (refl, tt)
  asks_same (statistics.Aggregate pattern table out_port) asked is own = subst MaySend (same_Some (statistics.Flow pattern table out_port) asked is) (refl, tt)
  asks_same statistics.Table asked is own = absurd (none-some asked is)
  asks_same (statistics.Port port) asked is own = subst MaySend (same_Some (statistics.Port port) asked is) (refl, own)
  asks_same (statistics.Queue port queue) asked is own = subst MaySend (same_Some (statistics.Queue port queue) asked is) (refl, own)

  -- a question may be asked
  pub may_be : (message question : List ℕ) (asked : FromController) → IsInquirySent g asked question → MayBeAsked rules slot asked
  may_be message question (said.StatsRequest request) is = (ap is_some (some_asked (asked_as request) g.xid question is.1).1, may_own request is.0)
  may_be message question said.BarrierRequest is = tt
  may_be message question (said.QueueGetConfigRequest queues) is = owned queues.port is.0
  may_be message question _ is = absurd is

  -- a switch reads it as one that may be asked
  pub read_as_question : (message question : List ℕ) (asked : FromController) → ((k : ℕ) → slice_index message k < 256) → read_controller message ≡ Ok asked → IsInquirySent g asked question → IsReadAsInquiry rules slot question
  read_as_question message question (said.StatsRequest request) bytes read is =
      let sent = some_asked (asked_as request) g.xid question is.1 in
      let range = asked_in_range request sent.0 sent.1 (read_in_range message request bytes (request_as_read message request read)) in
      record { asked = said.StatsRequest sent.0; read = ap read_controller sent.2 ∙ request_read sent.0 g.xid range; may = asks_same request sent.0 sent.1 (may_own request is.0) }
  read_as_question message question said.BarrierRequest bytes read is = record { asked = said.BarrierRequest; read = ap read_controller is ∙ barrier_read g.xid; may = tt }
  read_as_question message question (said.QueueGetConfigRequest queues) bytes read is =
      record {
        asked = said.QueueGetConfigRequest queues;
        read = ap read_controller is.1 ∙ question_read g.xid queues (question_is message queues bytes (queues_as_read message queues read));
        may = owned queues.port is.0;
      }
  read_as_question message question _ bytes read is = absurd is
