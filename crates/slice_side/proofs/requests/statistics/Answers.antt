use Rattle.std.proofs.Common.{ℕ, ◌++◌, length, take, min, refl, sym, ap, ◌∙◌, Ok}
use Rattle.of10_action.specs.Actions.{padding}
use Rattle.of10_message.specs.declared.controller.FromController.TheVariants as said
use Rattle.of10_message.specs.Heads.{xid_of}
use Rattle.xid_map.specs.declared.asked.AskKind.{AskKind}
use Rattle.stats_filter.specs.Asking.{question_for}
use Rattle.slice_words.specs.Pasts.{ForStatistics}
use Rattle.slice_words.specs.Calls.{request_calls}
use Rattle.slice_words.specs.FlowMods.{Ground, ground_of, not_permitted}
use Rattle.slice_words.specs.Questions.{may_ask}
use Rattle.slice_words.specs.Answers.{statistics_answer}
use Rattle.slice_words.specs.Standing.{past_of}
use Rattle.slice_side.proofs.Grounds.{same_but_booked}
use Rattle.slice_side.proofs.Following.{refusal_result}
use Rattle.slice_side.proofs.Inquiring.{may_ask_booked, statistics_refused, statistics_sent, statistics_spelled, inquiry_result}
use Rattle.slice_side.proofs.Sending.{nothing_sent, question_sent}
use Rattle.slice_side.proofs.requests.statistics.Goals as goal

pub returns-then-not-may_ask-clause-follows : goal.returns-then-not-may_ask-clause-follows
returns-then-not-may_ask-clause-follows c s sight stands sees =
    let g = ground_of s sight.view (past_of s sight.view) in
    refusal_result c.refused.result s sight c.args.frame.now (Ok (said.StatsRequest c.args.request.now)) c.args.moment (statistics_answer g c.args.request.now c.args.frame.now) not_permitted
    (statistics_refused g c.args.request.now c.args.frame.now
    (sym (same_but_booked (λ (k : Ground). may_ask k c.args.request.now) (may_ask_booked c.args.request.now) s sight c.args.around.now.state.now c.args.around.now.policy.now c.args.around.now.ports.now c.args.around.now.features.now c.args.around.now.slot s.quota g.xid stands sees refl refl)
    ∙ sym (c.may_ask.ensures s.quota g.xid) ∙ c.if-not-may_ask.true))
    refl c.refused.ensures.to_slice c.refused.ensures.to_switch c.refused.ensures.close c.refused.ensures.change

pub returns-in-Some-clause-follows : goal.returns-in-Some-clause-follows
returns-in-Some-clause-follows c s sight stands sees =
    let g = ground_of s sight.view (past_of s sight.view) in
    let xids = ap (λ (p : ℕ × ℕ). p.1) (c.next-xid.ensures.value s.slot (request_calls s (past_of s sight.view)) stands.requests) in
    let asked = statistics_spelled c.args.request.now g.xid c.in-Some.question (ap (question_for c.args.request.now) (sym xids) ∙ sym c.in_ok-ask.ensures ∙ c.in-Some.is) in
    inquiry_result c.sending.result s sight c.args.frame.now (Ok (said.StatsRequest c.args.request.now)) c.args.moment (statistics_answer g c.args.request.now c.args.frame.now) g (ForStatistics asked.0) c.in-Some.question c.asked-asked.result
    (statistics_sent g c.args.request.now asked.0 c.args.frame.now
    (sym (same_but_booked (λ (k : Ground). may_ask k c.args.request.now) (may_ask_booked c.args.request.now) s sight c.args.around.now.state.now c.args.around.now.policy.now c.args.around.now.ports.now c.args.around.now.features.now c.args.around.now.slot s.quota g.xid stands sees refl refl)
    ∙ sym (c.may_ask.ensures s.quota g.xid) ∙ c.if-not-may_ask.false)
    asked.1)
    asked.2
    refl
    (c.asked-asked.ensures.value ∙ ap (λ (kind : AskKind). record { xid = xid_of c.args.frame.now; first = take 64 (c.args.frame.now ++ padding 64); first_len = min (length c.args.frame.now) 64; kind = kind; port = 0 }) c.kind_of.ensures)
    c.sending.ensures.to_slice c.sending.ensures.to_switch c.sending.ensures.close c.sending.ensures.change

pub returns-then-not-may_ask-clause-sent : goal.returns-then-not-may_ask-clause-sent
returns-then-not-may_ask-clause-sent c = nothing_sent c.refused.result c.args.around.now.policy.now.rules c.args.around.now.slot c.args.around.now.ports.now c.args.around.now.state.now (Ok (said.StatsRequest c.args.request.now)) c.refused.ensures.to_switch

pub returns-in_ok-reply-in-None-clause-sent : goal.returns-in_ok-reply-in-None-clause-sent
returns-in_ok-reply-in-None-clause-sent c = nothing_sent c.replying.result c.args.around.now.policy.now.rules c.args.around.now.slot c.args.around.now.ports.now c.args.around.now.state.now (Ok (said.StatsRequest c.args.request.now)) c.replying.ensures.to_switch

pub returns-in-Some-clause-sent : goal.returns-in-Some-clause-sent
returns-in-Some-clause-sent c = question_sent c.sending.result c.args.around.now.policy.now.rules c.args.around.now.slot c.args.around.now.ports.now c.args.around.now.state.now c.next-xid.result.1 (said.StatsRequest c.args.request.now) c.in-Some.question
    (sym (c.may_ask.ensures 0 c.next-xid.result.1) ∙ c.if-not-may_ask.false, sym c.in_ok-ask.ensures ∙ c.in-Some.is)
    c.sending.ensures.to_switch
