use Rattle.std.proofs.Common.{◌≡◌, ◌<◌, ℕ, Some, IfSome, slice_get, slice_set, length, refl, sym, ◌∙◌, subst}
use Rattle.std.specs.Vec.{with_item}
use Rattle.proxy_core.specs.declared.desk.Session.{Session}
use Rattle.proxy_core.specs.Desks.{pending_at}
use Rattle.proxy_core.specs.Opening.{IsNext}
use Rattle.proxy_core.proofs.Places.{get_set}
use Rattle.proxy_core.proofs.Rooms.{placed_queue, queue_read, waits_at}
use Rattle.proxy_core.proofs.desk.Session.next.Goals as goal

pub returns-clause-there : goal.returns-clause-there
returns-clause-there c =
    placed_queue c.args.slot c.from.result (IsNext c.take.result) c.args.self.now _ c.index_mut.result.now c.take.new.self c.from.ensures (sym c.has_side_at.ensures ∙ c.if-not-has_side_at.false)
    refl refl refl refl refl (queue_read c.args.slot c.from.result c.args.self.now c.index_mut.result.now c.from.ensures (sym c.has_side_at.ensures ∙ c.if-not-has_side_at.false) c.index_mut.ensures.value)
    (λ a. (refl, λ limit queue h. (c.take.ensures.value limit queue h, c.take.ensures.stands limit queue h)))

pub returns-clause-fewer : goal.returns-clause-fewer
returns-clause-fewer c =
    let old = c.args.self.now in
    let g = queue_read c.args.slot c.from.result old c.index_mut.result.now c.from.ensures (sym c.has_side_at.ensures ∙ c.if-not-has_side_at.false) c.index_mut.ensures.value in
    let before = waits_at old c.args.slot c.index_mut.result.now (subst (λ (k : ℕ). slice_get old.queues.items k ≡ Some c.index_mut.result.now) c.from.ensures g) in
    let new : Session = record old { queues = with_item old.queues c.from.result c.take.new.self } in
    let after = waits_at new c.args.slot c.take.new.self (subst (λ (k : ℕ). slice_get (slice_set old.queues.items c.from.result c.take.new.self) k ≡ Some c.take.new.self) c.from.ensures (get_set old.queues.items c.from.result c.index_mut.result.now c.take.new.self g)) in
    subst (λ (n : ℕ). IfSome c.take.result (λ x. n < pending_at c.args.slot (Some old))) after (subst (λ (n : ℕ). IfSome c.take.result (λ x. length c.take.new.self.pending < n)) before c.take.ensures.fewer)
