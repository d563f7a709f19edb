use Rattle.std.proofs.Common.{refl, sym, ◌∙◌}
use Rattle.std.proofs.lemmas.Result.{err_from_is_err_and}
use Rattle.proxy_core.specs.Slots.{Comes, Keeps}
use Rattle.proxy_core.proofs.Rooms.{placed_here}
use Rattle.proxy_core.proofs.desk.Session.come.Goals as goal

pub returns-in_err-come-clause-err : goal.returns-in_err-come-clause-err
returns-in_err-come-clause-err c =
    let p = err_from_is_err_and c.from_residual.result c.from_residual.ensures.1 in
    rw p.1
    (placed_here c.args.slot c.from-at.result Keeps c.args.self.now _ c.index_mut.result.now c.come.new.state c.index_mut-2.result.now c.come.new.queue c.from-at.ensures
    (sym c.has_side_at.ensures ∙ c.if-not-has_side_at.false) refl refl refl refl refl c.index_mut.ensures.value c.index_mut-2.ensures.value c.in_err-come.ensures.err)

pub returns-clause-ok : goal.returns-clause-ok
returns-clause-ok c =
    placed_here c.args.slot c.from-at.result Comes c.args.self.now _ c.index_mut.result.now c.come.new.state c.index_mut-2.result.now c.come.new.queue c.from-at.ensures
    (sym c.has_side_at.ensures ∙ c.if-not-has_side_at.false) refl refl refl refl refl c.index_mut.ensures.value c.index_mut-2.ensures.value c.in_ok-come.ensures.ok
