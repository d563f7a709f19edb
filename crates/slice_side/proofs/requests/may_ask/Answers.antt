use Rattle.std.proofs.Common.{sym, ap, ◌∙◌, ◌==◌}
use Rattle.std.proofs.lemmas.Bool.{ne_eqb}
use Rattle.of10_port.specs.declared.protocol.TheConstants.{NONE, ALL}
use Rattle.slice_words.specs.Questions.{may_ask}
use Rattle.slice_words.proofs.LoneRules.{same_port}
use Rattle.slice_side.specs.Reactions.{ground_at}
use Rattle.slice_side.proofs.Inquiring.{by_port}
use Rattle.slice_side.proofs.requests.may_ask.Goals as goal

pub returns-else-port : goal.returns-else-port
returns-else-port c quota xid =
    c.has_port.ensures.value
    ∙ sym (same_port c.args.around.now.slot c.args.around.now.policy.now.rules c.in-Port.port)
    ∙ sym (by_port (c.in-Port.port == NONE) _ (ne_eqb c.in-Port.port NONE c.if-port.false))
    ∙ ap (may_ask (ground_at c.args.around.now.policy.now.rules c.args.around.now.slot c.args.around.now.ports.now quota xid c.args.around.now.state.now)) (sym c.in-Port.is)

pub returns-else-port-2 : goal.returns-else-port-2
returns-else-port-2 c quota xid =
    c.has_port-else-port-2.ensures.value
    ∙ sym (same_port c.args.around.now.slot c.args.around.now.policy.now.rules c.in-Queue.port)
    ∙ sym (by_port (c.in-Queue.port == ALL) _ (ne_eqb c.in-Queue.port ALL c.if-port-2.false))
    ∙ ap (may_ask (ground_at c.args.around.now.policy.now.rules c.args.around.now.slot c.args.around.now.ports.now quota xid c.args.around.now.state.now)) (sym c.in-Queue.is)
