use Rattle.std.proofs.Common.{ℕ, refl, sym, ap, ◌∙◌, Ok}
use Rattle.of10_message.specs.Queues.{spell_queues_request}
use Rattle.of10_message.specs.declared.controller.FromController.TheVariants as said
use Rattle.slice_words.specs.Items.{is_own_port}
use Rattle.slice_words.specs.Pasts.{ForQueues}
use Rattle.slice_words.specs.Calls.{request_calls}
use Rattle.slice_words.specs.FlowMods.{Ground, ground_of, not_permitted}
use Rattle.slice_words.specs.Answers.{queues_answer}
use Rattle.slice_words.specs.Standing.{past_of}
use Rattle.slice_words.proofs.LoneRules.{same_port}
use Rattle.slice_side.proofs.Grounds.{same_but_booked}
use Rattle.slice_side.proofs.Following.{refusal_result}
use Rattle.slice_side.proofs.Inquiring.{queues_refused, queues_sent, inquiry_result}
use Rattle.slice_side.proofs.Sending.{nothing_sent, question_sent}
use Rattle.slice_side.proofs.requests.queues.Goals as goal

pub returns-then-not-has_port-clause-follows : goal.returns-then-not-has_port-clause-follows
returns-then-not-has_port-clause-follows c s sight stands sees =
    let g = ground_of s sight.view (past_of s sight.view) in
    refusal_result c.refused.result s sight c.args.frame.now (Ok (said.QueueGetConfigRequest c.args.question.now)) c.args.moment (queues_answer g c.args.question.now c.args.frame.now) not_permitted
    (queues_refused g c.args.question.now c.args.frame.now
    (sym (same_but_booked (λ (k : Ground). is_own_port k.slot k.patterns c.args.question.now.port) (λ k booked. refl) s sight c.args.around.now.state.now c.args.around.now.policy.now c.args.around.now.ports.now c.args.around.now.features.now c.args.around.now.slot s.quota g.xid stands sees refl refl)
    ∙ same_port c.args.around.now.slot c.args.around.now.policy.now.rules c.args.question.now.port ∙ sym c.has_port.ensures.value ∙ c.if-not-has_port.true))
    refl c.refused.ensures.to_slice c.refused.ensures.to_switch c.refused.ensures.close c.refused.ensures.change

pub returns-clause-follows : goal.returns-clause-follows
returns-clause-follows c s sight stands sees =
    let g = ground_of s sight.view (past_of s sight.view) in
    let xids = ap (λ (p : ℕ × ℕ). p.1) (c.next-xid.ensures.value s.slot (request_calls s (past_of s sight.view)) stands.requests) in
    inquiry_result c.sending.result s sight c.args.frame.now (Ok (said.QueueGetConfigRequest c.args.question.now)) c.args.moment (queues_answer g c.args.question.now c.args.frame.now) g (ForQueues c.args.question.now) c.in_ok-sent.sent c.asked-asked.result
    (queues_sent g c.args.question.now c.args.frame.now
    (sym (same_but_booked (λ (k : Ground). is_own_port k.slot k.patterns c.args.question.now.port) (λ k booked. refl) s sight c.args.around.now.state.now c.args.around.now.policy.now c.args.around.now.ports.now c.args.around.now.features.now c.args.around.now.slot s.quota g.xid stands sees refl refl)
    ∙ same_port c.args.around.now.slot c.args.around.now.policy.now.rules c.args.question.now.port ∙ sym c.has_port.ensures.value ∙ c.if-not-has_port.false))
    (c.in_ok-sent.ensures ∙ ap (λ (xid : ℕ). spell_queues_request xid c.args.question.now) xids)
    refl c.asked-asked.ensures.value c.sending.ensures.to_slice c.sending.ensures.to_switch c.sending.ensures.close c.sending.ensures.change

pub returns-then-not-has_port-clause-sent : goal.returns-then-not-has_port-clause-sent
returns-then-not-has_port-clause-sent c = nothing_sent c.refused.result c.args.around.now.policy.now.rules c.args.around.now.slot c.args.around.now.ports.now c.args.around.now.state.now (Ok (said.QueueGetConfigRequest c.args.question.now)) c.refused.ensures.to_switch

pub returns-clause-sent : goal.returns-clause-sent
returns-clause-sent c = question_sent c.sending.result c.args.around.now.policy.now.rules c.args.around.now.slot c.args.around.now.ports.now c.args.around.now.state.now c.next-xid.result.1 (said.QueueGetConfigRequest c.args.question.now) c.in_ok-sent.sent (
  same_port c.args.around.now.slot c.args.around.now.policy.now.rules c.args.question.now.port ∙ sym c.has_port.ensures.value ∙ c.if-not-has_port.false,
  c.in_ok-sent.ensures,
)
    c.sending.ensures.to_switch
