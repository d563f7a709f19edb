use Rattle.std.proofs.Common.{refl, sym, subst, ◌∙◌}
use Rattle.std.proofs.lemmas.Result.{on_err_weaker, IfOk-weaker}
use Rattle.proxy_core.specs.Slots.{Keeps, Hears}
use Rattle.proxy_core.proofs.Rooms.{placed_here, there_up}
use Rattle.proxy_core.proofs.desk.Session.hear.Goals as goal

pub returns-clause-err : goal.returns-clause-err
returns-clause-err c =
    let there = there_up c.args.self.now c.args.slot (sym c.is_up.ensures ∙ c.if-not-is_up.false) in
    on_err_weaker c.hear.result (λ keeps. placed_here c.args.slot c.from-at.result Keeps c.args.self.now _ c.index_mut.result.now c.hear.new.state c.index_mut-2.result.now c.hear.new.queue c.from-at.ensures there
    refl refl refl refl refl c.index_mut.ensures.value c.index_mut-2.ensures.value keeps) c.hear.ensures.err

pub returns-clause-up : goal.returns-clause-up
returns-clause-up c =
    let old = c.args.self.now in
    let there = there_up old c.args.slot (sym c.is_up.ensures ∙ c.if-not-is_up.false) in
    IfOk-weaker c.hear.result _ _ (λ on hears up. placed_here c.args.slot c.from-at.result (λ a b x y. Hears old.policy old.ports old.features c.args.slot c.args.frame.now c.args.moment on a b c.args.lane.now x y c.hear.new.lane) old _
    c.index_mut.result.now c.hear.new.state c.index_mut-2.result.now c.hear.new.queue c.from-at.ensures there refl refl refl refl refl c.index_mut.ensures.value c.index_mut-2.ensures.value
    (subst (λ v. Hears v old.ports old.features c.args.slot c.args.frame.now c.args.moment on c.index_mut.result.now c.index_mut-2.result.now c.args.lane.now c.hear.new.state c.hear.new.queue c.hear.new.lane) c.policy.ensures hears)) c.hear.ensures.ok
