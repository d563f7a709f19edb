use Rattle.std.proofs.Common.{◌≡◌, Ok, IfOk, sym, subst}
use Rattle.of10_message.specs.declared.switch.SwitchMessageView.{SwitchMessageView}
use Rattle.of10_message.specs.SwitchViews.{said_by}
use Rattle.switch_side.specs.Carrying.{carried, carried_with}
use Rattle.switch_side.proofs.reacting.follow_other.Goals as goal

pub returns-in-StatsReply : goal.returns-in-StatsReply
returns-in-StatsReply c called all =
    subst (λ (said : SwitchMessageView). IfOk c.statistics.result (λ d. carried d ≡ carried_with called c.args.around.now.policy.now.rules c.args.around.now.ports.now c.args.around.now.states.now c.args.xid (Ok (said_by said)))) (sym c.in-StatsReply.is)
    (c.statistics.ensures called all)
