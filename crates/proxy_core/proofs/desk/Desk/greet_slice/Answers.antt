use Rattle.std.proofs.Common.{refl}
use Rattle.std.proofs.lemmas.Result.{on_err_weaker}
use Rattle.proxy_core.proofs.Events.{none_up}
use Rattle.proxy_core.proofs.Sliced.{came, stays_kept}
use Rattle.proxy_core.proofs.Switched.{ok_both}
use Rattle.proxy_core.proofs.desk.Desk.greet_slice.Goals as goal

pub returns-in-Some-clause-ok : goal.returns-in-Some-clause-ok
returns-in-Some-clause-ok c = ok_both c.come.result _ _ _
    (λ there is at moment. came c.args.self.now _ c.in-Some.session c.come.new.self c.args.slot moment there c.in-Some.is refl refl refl refl is at) c.come.ensures.value c.come.ensures.ok

pub returns-in-Some-clause-err : goal.returns-in-Some-clause-err
returns-in-Some-clause-err c = on_err_weaker c.come.result
    (λ at. stays_kept c.args.self.now _ c.in-Some.session c.come.new.self c.args.slot c.in-Some.is refl refl (λ limit q h. h) refl at) c.come.ensures.err

pub returns-in-None-clause-ok : goal.returns-in-None-clause-ok
returns-in-None-clause-ok c moment = none_up c.args.self.now c.args.slot moment c.in-None.is
