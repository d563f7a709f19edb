use Rattle.std.proofs.Common.{ℕ, ◌≡◌, ◌==◌, length, map, refl, sym, ap, subst, ◌∙◌, rules, option_map, inl, inr, Ok}
use Rattle.std.specs.Prelude.{vec_len}
use Rattle.of10_message.specs.declared.controller.FromController.TheVariants as said
use Rattle.slice_words.specs.Alone.{rendered}
use Rattle.slice_words.specs.Calls.{request_calls}
use Rattle.slice_words.specs.FlowMods.{Ground, ground_of, pieces_on, named_packet, carrier_of, sent_on}
use Rattle.slice_words.specs.Standing.{past_of}
use Rattle.slice_side.specs.Reactions.{ground_at}
use Rattle.slice_side.specs.Checking.{IsOutcome}
use Rattle.slice_side.proofs.Grounds.{fault_same, same_but_booked}
use Rattle.slice_side.proofs.Lines.{rendered_from}
use Rattle.slice_side.proofs.Packets.{have_come, uses_sent}
use Rattle.slice_side.proofs.Following.{flow_mod_refused, nothing_follows, sending_follows, none_there, some_there}
use Rattle.slice_side.proofs.Sending.{nothing_sent}
use Rattle.slice_side.proofs.rated_messages.flow_mod.Goals as goal

pub returns-in-Refused-clause-follows : goal.returns-in-Refused-clause-follows
returns-in-Refused-clause-follows c s sight stands sees =
    let quotas = c.quota-quota.ensures s.quota sees.same_quota in
    let xids = ap (λ (p : ℕ × ℕ). p.1) (c.next-xid.ensures.value s.slot (request_calls s (past_of s sight.view)) stands.requests) in
    let told = c.in_ok-class.ensures.outcome in
    flow_mod_refused c.refused.result s sight c.args.frame.now c.args.moment (ground_of s sight.view (past_of s sight.view)) c.args.m.now (c.in-Refused.class, c.in-Refused.code)
    (sym (fault_same s sight c.args.around.now.state.now c.args.around.now.policy.now c.args.around.now.ports.now c.args.around.now.features.now c.args.around.now.slot c.quota-quota.result c.next-xid.result.1 c.args.m.now stands sees quotas xids)
    ∙ subst (IsOutcome c.args.around.now.state.now (ground_at c.args.around.now.policy.now.rules c.args.around.now.slot c.args.around.now.ports.now c.quota-quota.result c.next-xid.result.1 c.args.around.now.state.now) c.args.m.now) c.in-Refused.is told)
    c.refused.ensures.to_slice c.refused.ensures.to_switch c.refused.ensures.close c.refused.ensures.change

pub returns-then-is_empty-clause-follows : goal.returns-then-is_empty-clause-follows
returns-then-is_empty-clause-follows c s sight stands sees =
    let quotas = c.quota-quota.ensures s.quota sees.same_quota in
    let xids = ap (λ (p : ℕ × ℕ). p.1) (c.next-xid.ensures.value s.slot (request_calls s (past_of s sight.view)) stands.requests) in
    let told = c.in_ok-class.ensures.outcome in
    let o = subst (IsOutcome c.args.around.now.state.now (ground_at c.args.around.now.policy.now.rules c.args.around.now.slot c.args.around.now.ports.now c.quota-quota.result c.next-xid.result.1 c.args.around.now.state.now) c.args.m.now) c.in-Sent.is told in
    nothing_follows s sight c.args.frame.now c.args.moment (ground_of s sight.view (past_of s sight.view)) c.args.m.now c.in-Sent.frames.items c.silent.result
    (sym (fault_same s sight c.args.around.now.state.now c.args.around.now.policy.now c.args.around.now.ports.now c.args.around.now.features.now c.args.around.now.slot c.quota-quota.result c.next-xid.result.1 c.args.m.now stands sees quotas xids) ∙ o.0)
    (o.1 ∙ rendered_from (ground_at c.args.around.now.policy.now.rules c.args.around.now.slot c.args.around.now.ports.now c.quota-quota.result c.next-xid.result.1 c.args.around.now.state.now) c.args.m.now sight.came c.args.around.now.state.now (have_come s sight c.args.around.now.state.now stands) refl ∙ ap (map (rendered sight.came)) (same_but_booked (λ (g : Ground). sent_on g c.args.m.now) (λ g booked. refl) s sight c.args.around.now.state.now c.args.around.now.policy.now c.args.around.now.ports.now c.args.around.now.features.now c.args.around.now.slot c.quota-quota.result c.next-xid.result.1 stands sees quotas xids))
    (none_there c.in-Sent.frames.items c.is_empty.result (c.is_empty.ensures ∙ ap (λ n. n == 0) (let count : vec_len c.in-Sent.frames ≡ length c.in-Sent.frames.items = search rules in count)) c.if-is_empty.true) c.silent.ensures.to_slice c.silent.ensures.to_switch c.silent.ensures.close c.silent.ensures.change

pub returns-else-is_empty-clause-follows : goal.returns-else-is_empty-clause-follows
returns-else-is_empty-clause-follows c s sight stands sees =
    let quotas = c.quota-quota.ensures s.quota sees.same_quota in
    let xids = ap (λ (p : ℕ × ℕ). p.1) (c.next-xid.ensures.value s.slot (request_calls s (past_of s sight.view)) stands.requests) in
    let told = c.in_ok-class.ensures.outcome in
    let o = subst (IsOutcome c.args.around.now.state.now (ground_at c.args.around.now.policy.now.rules c.args.around.now.slot c.args.around.now.ports.now c.quota-quota.result c.next-xid.result.1 c.args.around.now.state.now) c.args.m.now) c.in-Sent.is told in
    sending_follows s sight c.args.frame.now c.args.moment (ground_of s sight.view (past_of s sight.view)) c.args.m.now c.in-Sent.frames.items c.modification.result c.forwarding.result
    (sym (fault_same s sight c.args.around.now.state.now c.args.around.now.policy.now c.args.around.now.ports.now c.args.around.now.features.now c.args.around.now.slot c.quota-quota.result c.next-xid.result.1 c.args.m.now stands sees quotas xids) ∙ o.0)
    (o.1 ∙ rendered_from (ground_at c.args.around.now.policy.now.rules c.args.around.now.slot c.args.around.now.ports.now c.quota-quota.result c.next-xid.result.1 c.args.around.now.state.now) c.args.m.now sight.came c.args.around.now.state.now (have_come s sight c.args.around.now.state.now stands) refl ∙ ap (map (rendered sight.came)) (same_but_booked (λ (g : Ground). sent_on g c.args.m.now) (λ g booked. refl) s sight c.args.around.now.state.now c.args.around.now.policy.now c.args.around.now.ports.now c.args.around.now.features.now c.args.around.now.slot c.quota-quota.result c.next-xid.result.1 stands sees quotas xids))
    (some_there c.in-Sent.frames.items c.is_empty.result (c.is_empty.ensures ∙ ap (λ n. n == 0) (let count : vec_len c.in-Sent.frames ≡ length c.in-Sent.frames.items = search rules in count)) c.if-is_empty.false)
    (ap (λ made. made.asked) c.modification.ensures) (ap (λ made. made.command) c.modification.ensures)
    (ap (λ made. made.pieces.items) c.modification.ensures ∙ o.2 ∙ same_but_booked (λ (g : Ground). pieces_on g c.args.m.now) (λ g booked. refl) s sight c.args.around.now.state.now c.args.around.now.policy.now c.args.around.now.ports.now c.args.around.now.features.now c.args.around.now.slot c.quota-quota.result c.next-xid.result.1 stands sees quotas xids)
    (ap (λ made. made.priority) c.modification.ensures) (ap (λ made. made.asks) c.modification.ensures) (ap (λ made. made.moment) c.modification.ensures)
    (uses_sent s sight.view (past_of s sight.view) c.args.m.now c.modification.result.used
    (ap (λ made. made.used) c.modification.ensures ∙ o.3
    ∙ same_but_booked (λ (g : Ground). option_map (λ (own : ℕ × ℕ). c.args.m.now.buffer) (carrier_of (named_packet g c.args.m.now) (pieces_on g c.args.m.now))) (λ g booked. refl) s sight c.args.around.now.state.now c.args.around.now.policy.now c.args.around.now.ports.now c.args.around.now.features.now c.args.around.now.slot c.quota-quota.result c.next-xid.result.1 stands sees quotas xids))
    c.forwarding.ensures.to_slice c.forwarding.ensures.to_switch c.forwarding.ensures.close c.forwarding.ensures.change

pub returns-in-Refused-clause-sent : goal.returns-in-Refused-clause-sent
returns-in-Refused-clause-sent c = nothing_sent c.refused.result c.args.around.now.policy.now.rules c.args.around.now.slot c.args.around.now.ports.now c.args.around.now.state.now (Ok (said.FlowMod c.args.m.now)) c.refused.ensures.to_switch

pub returns-then-is_empty-clause-sent : goal.returns-then-is_empty-clause-sent
returns-then-is_empty-clause-sent c = (0, 0, inl c.silent.ensures.to_switch)

pub returns-else-is_empty-clause-sent : goal.returns-else-is_empty-clause-sent
returns-else-is_empty-clause-sent c =
    let o = subst (IsOutcome c.args.around.now.state.now (ground_at c.args.around.now.policy.now.rules c.args.around.now.slot c.args.around.now.ports.now c.quota-quota.result c.next-xid.result.1 c.args.around.now.state.now) c.args.m.now) c.in-Sent.is c.in_ok-class.ensures.outcome in
    (c.quota-quota.result, c.next-xid.result.1, inr (inl (c.args.m.now, refl, o.0, c.forwarding.ensures.to_switch ∙ o.1)))
