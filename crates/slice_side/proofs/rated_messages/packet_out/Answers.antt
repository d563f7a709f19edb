use Rattle.std.proofs.Common.{ℕ, List, [], ◌∷◌, map, refl, sym, ap, subst, ◌∙◌, option_map, inl, inr, Ok}
use Rattle.std.proofs.lemmas.Result.{IfOk-weaker}
use Rattle.of10_message.specs.declared.controller.FromController.TheVariants as said
use Rattle.slice_words.specs.Alone.{rendered}
use Rattle.slice_words.specs.Buffers.{HeldPacket}
use Rattle.slice_words.specs.Calls.{request_calls}
use Rattle.slice_words.specs.FlowMods.{Ground, ground_of, packet_at}
use Rattle.slice_words.specs.PacketOuts.{sent_out}
use Rattle.slice_words.specs.Standing.{past_of}
use Rattle.slice_side.specs.Reactions.{ground_at}
use Rattle.slice_side.specs.Checking.{IsPacketOutcome}
use Rattle.slice_side.proofs.Grounds.{out_fault_same, sent_out_booked, same_but_booked}
use Rattle.slice_side.proofs.Outs.{out_rendered}
use Rattle.slice_side.proofs.Packets.{have_come, uses_sent_out}
use Rattle.slice_side.proofs.Following.{packet_out_refused, packet_out_sent}
use Rattle.slice_side.proofs.Sending.{nothing_sent}
use Rattle.slice_side.proofs.rated_messages.packet_out.Goals as goal

pub returns-in-Refused-clause-follows : goal.returns-in-Refused-clause-follows
returns-in-Refused-clause-follows c s sight stands sees =
    let xids = ap (λ (p : ℕ × ℕ). p.1) (c.next-xid.ensures.value s.slot (request_calls s (past_of s sight.view)) stands.requests) in
    let told = c.in_ok-class.ensures s.quota in
    packet_out_refused c.refused.result s sight c.args.frame.now c.args.moment (ground_of s sight.view (past_of s sight.view)) c.args.m.now (c.in-Refused.class, c.in-Refused.code)
    (sym (out_fault_same s sight c.args.around.now.state.now c.args.around.now.policy.now c.args.around.now.ports.now c.args.around.now.features.now c.args.around.now.slot s.quota c.next-xid.result.1 c.args.m.now stands sees refl xids)
    ∙ subst (IsPacketOutcome c.args.around.now.state.now (ground_at c.args.around.now.policy.now.rules c.args.around.now.slot c.args.around.now.ports.now s.quota c.next-xid.result.1 c.args.around.now.state.now) c.args.m.now) c.in-Refused.is told)
    c.refused.ensures.to_slice c.refused.ensures.to_switch c.refused.ensures.close c.refused.ensures.change

pub returns-in-Sent-clause-follows : goal.returns-in-Sent-clause-follows
returns-in-Sent-clause-follows c s sight stands sees =
    let xids = ap (λ (p : ℕ × ℕ). p.1) (c.next-xid.ensures.value s.slot (request_calls s (past_of s sight.view)) stands.requests) in
    let told = c.in_ok-class.ensures s.quota in
    let o = subst (IsPacketOutcome c.args.around.now.state.now (ground_at c.args.around.now.policy.now.rules c.args.around.now.slot c.args.around.now.ports.now s.quota c.next-xid.result.1 c.args.around.now.state.now) c.args.m.now) c.in-Sent.is told in
    packet_out_sent c.sending.result s sight c.args.frame.now c.args.moment (ground_of s sight.view (past_of s sight.view)) c.args.m.now c.in-Sent.sent c.asked-asked.result c.in-Sent.used
    (sym (out_fault_same s sight c.args.around.now.state.now c.args.around.now.policy.now c.args.around.now.ports.now c.args.around.now.features.now c.args.around.now.slot s.quota c.next-xid.result.1 c.args.m.now stands sees refl xids) ∙ o.0)
    (ap (λ (bytes : List ℕ). bytes ∷ []) o.1 ∙ out_rendered (ground_at c.args.around.now.policy.now.rules c.args.around.now.slot c.args.around.now.ports.now s.quota c.next-xid.result.1 c.args.around.now.state.now) c.args.m.now sight.came c.args.around.now.state.now (have_come s sight c.args.around.now.state.now stands) refl ∙ ap (map (rendered sight.came)) (same_but_booked (λ (g : Ground). sent_out g c.args.m.now) (sent_out_booked c.args.m.now) s sight c.args.around.now.state.now c.args.around.now.policy.now c.args.around.now.ports.now c.args.around.now.features.now c.args.around.now.slot s.quota c.next-xid.result.1 stands sees refl xids))
    c.asked-asked.ensures.value
    (uses_sent_out s sight.view (past_of s sight.view) c.args.m.now c.in-Sent.used
    (o.2 ∙ same_but_booked (λ (g : Ground). option_map (λ (packet : HeldPacket). c.args.m.now.buffer) (packet_at g c.args.m.now.buffer)) (λ g booked. refl) s sight c.args.around.now.state.now c.args.around.now.policy.now c.args.around.now.ports.now c.args.around.now.features.now c.args.around.now.slot s.quota c.next-xid.result.1 stands sees refl xids))
    c.sending.ensures.to_slice c.sending.ensures.to_switch c.sending.ensures.close c.sending.ensures.change

pub returns-in-Refused-clause-sent : goal.returns-in-Refused-clause-sent
returns-in-Refused-clause-sent c = nothing_sent c.refused.result c.args.around.now.policy.now.rules c.args.around.now.slot c.args.around.now.ports.now c.args.around.now.state.now (Ok (said.PacketOut c.args.m.now)) c.refused.ensures.to_switch

pub returns-in-Sent-clause-sent : goal.returns-in-Sent-clause-sent
returns-in-Sent-clause-sent c =
    let o = subst (IsPacketOutcome c.args.around.now.state.now (ground_at c.args.around.now.policy.now.rules c.args.around.now.slot c.args.around.now.ports.now 0 c.next-xid.result.1 c.args.around.now.state.now) c.args.m.now) c.in-Sent.is (c.in_ok-class.ensures 0) in
    IfOk-weaker c.sending.result _ _ (λ r is. (0, c.next-xid.result.1, inr (inr (inl (c.args.m.now, refl, o.0, is ∙ ap (λ (bytes : List ℕ). bytes ∷ []) o.1))))) c.sending.ensures.to_switch
