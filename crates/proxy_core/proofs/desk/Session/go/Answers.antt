use Rattle.std.proofs.Common.{refl, sym, ◌∙◌}
use Rattle.proxy_core.specs.Opening.{Goes}
use Rattle.proxy_core.proofs.Handed.{only_none}
use Rattle.proxy_core.proofs.Rooms.{placed_here}
use Rattle.proxy_core.proofs.desk.Session.go.Goals as goal

pub returns-clause-change : goal.returns-clause-change
returns-clause-change c =
    placed_here c.args.slot c.from-at.result Goes c.args.self.now _ c.index_mut.result.now c.go.new.state c.index_mut-2.result.now c.go.new.waiting c.from-at.ensures
    (sym c.has_side_at.ensures ∙ c.if-not-has_side_at.false) refl refl refl refl refl c.index_mut.ensures.value c.index_mut-2.ensures.value
    (c.go.ensures.state, only_none c.index_mut-2.result.now c.go.new.waiting c.go.ensures.waiting)
