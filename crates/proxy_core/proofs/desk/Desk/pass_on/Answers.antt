use Rattle.std.proofs.Common.{refl}
use Rattle.std.proofs.lemmas.Result.{IfOk-weaker}
use Rattle.proxy_core.proofs.Sliced.{stays_on}
use Rattle.proxy_core.proofs.Switched.{passes_on, err_both}
use Rattle.proxy_core.proofs.desk.Desk.pass_on.Goals as goal

pub returns-in-Some-clause-ok : goal.returns-in-Some-clause-ok
returns-in-Some-clause-ok c = IfOk-weaker c.hear_switch.result _ _
    (λ go carries moment. passes_on moment c.args.frame.now go c.args.self.now c.in-Some.session c.hear_switch.new.self c.hear_switch.new.lane c.in-Some.is (carries moment)) c.hear_switch.ensures.ok

pub returns-in-Some-clause-err : goal.returns-in-Some-clause-err
returns-in-Some-clause-err c = err_both c.hear_switch.result
    (λ on lane. stays_on c.args.self.now _ c.in-Some.session c.hear_switch.new.self c.in-Some.is refl refl lane refl on) c.hear_switch.ensures.err c.hear_switch.ensures.lane
