use Rattle.std.proofs.Common.{ℕ, [], refl, ap, ◌∙◌, Ok}
use Rattle.of10_ctl.specs.declared.kind.TheConstants.{BARRIER_REQUEST}
use Rattle.of10_ctl.specs.Frames.{message_of}
use Rattle.of10_message.specs.declared.controller.FromController.TheVariants as said
use Rattle.slice_words.specs.Calls.{request_calls}
use Rattle.slice_words.specs.FlowMods.{ground_of}
use Rattle.slice_words.specs.Pasts.{ForBarrier}
use Rattle.slice_words.specs.Questions.{barrier_asked}
use Rattle.slice_words.specs.Standing.{past_of}
use Rattle.slice_side.proofs.Inquiring.{inquiry_result}
use Rattle.slice_side.proofs.Sending.{question_sent}
use Rattle.slice_side.proofs.requests.barrier.Goals as goal

pub returns-clause-follows : goal.returns-clause-follows
returns-clause-follows c s sight stands sees =
    let xids = ap (λ (p : ℕ × ℕ). p.1) (c.next-xid.ensures.value s.slot (request_calls s (past_of s sight.view)) stands.requests) in
    let g = ground_of s sight.view (past_of s sight.view) in
    inquiry_result c.sending.result s sight c.args.frame.now (Ok said.BarrierRequest) c.args.moment (barrier_asked g) g ForBarrier c.in_ok-question.question c.asked-asked.result
    refl (c.in_ok-question.ensures.value ∙ ap (λ (xid : ℕ). message_of BARRIER_REQUEST xid []) xids)
    refl c.asked-asked.ensures.value c.sending.ensures.to_slice c.sending.ensures.to_switch c.sending.ensures.close c.sending.ensures.change

pub returns-clause-sent : goal.returns-clause-sent
returns-clause-sent c = question_sent c.sending.result c.args.around.now.policy.now.rules c.args.around.now.slot c.args.around.now.ports.now c.args.around.now.state.now c.next-xid.result.1 said.BarrierRequest c.in_ok-question.question c.in_ok-question.ensures.value c.sending.ensures.to_switch
