use Rattle.std.proofs.Common.{◌-◌, ◌<◌, ◌≤◌, min, ◌∷◌, refl, ap, ◌∙◌, get_or, arith, inl, inr}
use Rattle.std.specs.Prelude.{vec_len, vec_capacity}
use Rattle.std.specs.List.{insert}
use Rattle.flow_book.specs.Store.{no_pair, at_places}
use Rattle.flow_book.proofs.Stored.{at_places-insert, EachOnce-insert}
use Rattle.flow_book.proofs.entries.Entries.insert.Goals as goal

pub invariant_of-self : goal.invariant_of-self
invariant_of-self c =
    let order = c.self.inside.order.items in
    let room : 0 < min (min (vec_capacity c.self.inside.store) (vec_capacity c.self.inside.order)) (vec_capacity c.self.inside.free) - vec_len c.self.inside.order = rw (← c.self.view_is) at c.requires.room in
    let spare : vec_len c.put-place.new.store ≤ vec_capacity c.put-place.new.free = elim c.put-place.ensures.grown [
      | inl same ↦ omega (arith, same, c.self.invariant.2, c.put-place.ensures.free_capacity)
      | inr none ↦ omega (arith, none, room, c.self.invariant.1, c.put-place.ensures.len, c.put-place.ensures.free_capacity)
    ] in (
      rw c.in-Ok.ensures.items
          (EachOnce-insert (vec_len c.put-place.new.store) (c.put-place.result ∷ order) c.put-place.new.free.items (c.put-place.ensures.once order c.self.invariant.0) c.args.index c.put-place.result order refl),
      omega (arith, c.in-Ok.ensures.len, c.put-place.ensures.len, c.self.invariant.1),
      spare,
    )

pub returns-clause-booked : goal.returns-clause-booked
returns-clause-booked c =
    let order = c.self.inside.order.items in
    rw (c.in-Ok.ensures.items, ← c.self.view_is) (
    at_places-insert c.put-place.new.store.items order c.args.index c.put-place.result
    ∙ ap (λ l. insert l c.args.index (get_or c.put-place.new.store.items c.put-place.result no_pair)) (c.put-place.ensures.kept order c.self.invariant.0)
    ∙ ap (insert (at_places c.self.inside.store.items order) c.args.index) c.put-place.ensures.here)
