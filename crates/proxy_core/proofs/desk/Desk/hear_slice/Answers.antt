use Rattle.std.proofs.Common.{refl}
use Rattle.proxy_core.proofs.Events.{none_msg}
use Rattle.proxy_core.proofs.Sliced.{heard, stays_kept}
use Rattle.proxy_core.proofs.Switched.{ok_both, err_both}
use Rattle.proxy_core.proofs.desk.Desk.hear_slice.Goals as goal

pub returns-in-Some-clause-ok : goal.returns-in-Some-clause-ok
returns-in-Some-clause-ok c = ok_both c.hear.result _ _ _
    (λ on down up. heard c.args.self.now _ c.in-Some.session c.hear.new.self c.args.slot c.args.moment c.args.frame.now on c.in-Some.is refl refl refl down up) c.hear.ensures.down c.hear.ensures.up

pub returns-in-Some-clause-err : goal.returns-in-Some-clause-err
returns-in-Some-clause-err c = err_both c.hear.result
    (λ at lane. stays_kept c.args.self.now _ c.in-Some.session c.hear.new.self c.args.slot c.in-Some.is refl refl lane refl at) c.hear.ensures.err c.hear.ensures.lane

pub returns-in-None-clause-ok : goal.returns-in-None-clause-ok
returns-in-None-clause-ok c = none_msg c.args.self.now c.args.slot c.args.moment c.args.frame.now c.in-None.is
