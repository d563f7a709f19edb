use Rattle.std.proofs.Common.{sym, ap}
use Rattle.std.proofs.lemmas.Result.{IfOk-weaker}
use Rattle.of10_ctl.specs.declared.head.Head.{Head}
use Rattle.proxy_core.proofs.desk.Desk.hear_first.Goals as goal

pub returns-in-Ok-clause-ok : goal.returns-in-Ok-clause-ok
returns-in-Ok-clause-ok c = IfOk-weaker c.hear_said.result _ _
    (λ go acts moment. acts moment c.args.frame.now c.in-Ok.ensures.exact (sym (ap (λ (head : Head). head.xid) c.head.ensures.value))) c.hear_said.ensures.ok

pub returns-in-Err-clause-ok : goal.returns-in-Err-clause-ok
returns-in-Err-clause-ok c = IfOk-weaker c.hear_unread.result _ _
    (λ go acts moment. acts moment c.args.frame.now c.in-Err.ensures.exact) c.hear_unread.ensures.ok
