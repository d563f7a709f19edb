use Rattle.std.proofs.Common.{Ok, IfOk, subst, sym, ap, ◌∙◌}
use Rattle.of10_message.specs.declared.controller.FromController.{FromController}
use Rattle.of10_message.specs.declared.controller.FromController.TheVariants as said
use Rattle.flowspace.specs.Swaps.{pairs_of}
use Rattle.port_turns.specs.Turned.{exchanged, turned_flow_mod, turned_packet_out}
use Rattle.slice_words.specs.Messages.{Reading}
use Rattle.slice_side.specs.Reactions.{physical_said}
use Rattle.slice_side.specs.Checking.{AreSentOn}
use Rattle.slice_side.proofs.Sending.{nothing_sent}
use Rattle.slice_side.proofs.rated_messages.question.Goals as goal

pub returns-then-not-conforms-clause-sent : goal.returns-then-not-conforms-clause-sent
returns-then-not-conforms-clause-sent c = nothing_sent c.refused.result c.args.around.now.policy.now.rules c.args.around.now.slot c.args.around.now.ports.now c.args.around.now.state.now (Ok (physical_said c.args.around.now.policy.now c.args.around.now.slot c.args.message.now)) c.refused.ensures.to_switch

pub returns-in_ok-copied-in-FlowMod-clause-sent : goal.returns-in_ok-copied-in-FlowMod-clause-sent
returns-in_ok-copied-in-FlowMod-clause-sent c =
    let pairs = pairs_of c.args.around.now.policy.now.swaps c.args.around.now.slot in
    subst (λ (read : Reading). IfOk c.flow_mod.result (λ r. AreSentOn c.args.around.now.policy.now.rules c.args.around.now.slot c.args.around.now.ports.now c.args.around.now.state.now read r.to_switch.items))
    (ap (λ m. Ok (said.FlowMod m)) (c.turned_flow_mod-m.ensures ∙ ap (turned_flow_mod (exchanged pairs)) c.in_ok-copied-in-FlowMod.ensures.value) ∙ ap (λ (message : FromController). Ok (physical_said c.args.around.now.policy.now c.args.around.now.slot message)) (sym c.in-FlowMod.is)) c.flow_mod.ensures.sent

pub returns-in_ok-copied-in-PacketOut-clause-sent : goal.returns-in_ok-copied-in-PacketOut-clause-sent
returns-in_ok-copied-in-PacketOut-clause-sent c =
    let pairs = pairs_of c.args.around.now.policy.now.swaps c.args.around.now.slot in
    subst (λ (read : Reading). IfOk c.packet_out.result (λ r. AreSentOn c.args.around.now.policy.now.rules c.args.around.now.slot c.args.around.now.ports.now c.args.around.now.state.now read r.to_switch.items))
    (ap (λ m. Ok (said.PacketOut m)) (c.turned_packet_out-m.ensures ∙ ap (turned_packet_out (exchanged pairs)) c.in_ok-copied-in-PacketOut.ensures) ∙ ap (λ (message : FromController). Ok (physical_said c.args.around.now.policy.now c.args.around.now.slot message)) (sym c.in-PacketOut.is)) c.packet_out.ensures.sent

pub returns-in-StatsRequest-clause-sent : goal.returns-in-StatsRequest-clause-sent
returns-in-StatsRequest-clause-sent c =
    let pairs = pairs_of c.args.around.now.policy.now.swaps c.args.around.now.slot in
    subst (λ (read : Reading). IfOk c.statistics.result (λ r. AreSentOn c.args.around.now.policy.now.rules c.args.around.now.slot c.args.around.now.ports.now c.args.around.now.state.now read r.to_switch.items))
    (ap (λ m. Ok (said.StatsRequest m)) c.turned_request-request.ensures ∙ ap (λ (message : FromController). Ok (physical_said c.args.around.now.policy.now c.args.around.now.slot message)) (sym c.in-StatsRequest.is)) c.statistics.ensures.sent

pub returns-in-BarrierRequest-clause-sent : goal.returns-in-BarrierRequest-clause-sent
returns-in-BarrierRequest-clause-sent c =
    let pairs = pairs_of c.args.around.now.policy.now.swaps c.args.around.now.slot in
    subst (λ (read : Reading). IfOk c.barrier.result (λ r. AreSentOn c.args.around.now.policy.now.rules c.args.around.now.slot c.args.around.now.ports.now c.args.around.now.state.now read r.to_switch.items))
    (ap (λ (message : FromController). Ok (physical_said c.args.around.now.policy.now c.args.around.now.slot message)) (sym c.in-BarrierRequest.is)) c.barrier.ensures.sent

pub returns-in-QueueGetConfigRequest-clause-sent : goal.returns-in-QueueGetConfigRequest-clause-sent
returns-in-QueueGetConfigRequest-clause-sent c =
    let pairs = pairs_of c.args.around.now.policy.now.swaps c.args.around.now.slot in
    subst (λ (read : Reading). IfOk c.queues.result (λ r. AreSentOn c.args.around.now.policy.now.rules c.args.around.now.slot c.args.around.now.ports.now c.args.around.now.state.now read r.to_switch.items))
    (ap (λ m. Ok (said.QueueGetConfigRequest m)) c.turned_queues-question.ensures ∙ ap (λ (message : FromController). Ok (physical_said c.args.around.now.policy.now c.args.around.now.slot message)) (sym c.in-QueueGetConfigRequest.is)) c.queues.ensures.sent
