use Rattle.std.proofs.Common.{◌≡◌, Result, Ok, OnOk, sym, subst}
use Rattle.of10_ctl.specs.declared.head.Head.{Head}
use Rattle.of10_message.specs.declared.fault.Unread.{Unread}
use Rattle.of10_message.specs.Heads.{xid_of}
use Rattle.of10_message.specs.Switch.{SwitchMessage, read_switch}
use Rattle.of10_message.specs.SwitchViews.{said_by, ReadsAsSaid}
use Rattle.of10_message.specs.declared.switch.SwitchMessageView.{SwitchMessageView}
use Rattle.switch_side.specs.Carrying.{carried, carried_with}
use Rattle.switch_side.proofs.reacting.dispatch.Goals as goal

pub returns-in-Ok-clause-value : goal.returns-in-Ok-clause-value
returns-in-Ok-clause-value c called all =
    let exact = subst (λ (read : Result SwitchMessageView Unread). ReadsAsSaid read (read_switch c.args.frame.now)) c.in-Ok.is c.read_switch-read.ensures.exact in
    subst (λ (said : Result SwitchMessage Unread). OnOk c.follow.result (carried c.follow.new.spare.dispatch ≡ carried_with called c.args.around.now.policy.now.rules c.args.around.now.ports.now c.args.around.now.states.now (xid_of c.args.frame.now) said)) (sym exact)
    (subst (λ (head : Head). OnOk c.follow.result (carried c.follow.new.spare.dispatch ≡ carried_with called c.args.around.now.policy.now.rules c.args.around.now.ports.now c.args.around.now.states.now head.xid (Ok (said_by c.in-Ok.said)))) c.head.ensures.value (c.follow.ensures called all))

pub returns-in-Err-clause-value : goal.returns-in-Err-clause-value
returns-in-Err-clause-value c called all =
    let exact = subst (λ (read : Result SwitchMessageView Unread). ReadsAsSaid read (read_switch c.args.frame.now)) c.in-Err.is c.read_switch-read.ensures.exact in
    subst (λ (said : Result SwitchMessage Unread). carried c.unread.result ≡ carried_with called c.args.around.now.policy.now.rules c.args.around.now.ports.now c.args.around.now.states.now (xid_of c.args.frame.now) said) (sym exact)
    (c.unread.ensures called c.args.around.now.policy.now.rules c.args.around.now.ports.now c.args.around.now.states.now (xid_of c.args.frame.now))
