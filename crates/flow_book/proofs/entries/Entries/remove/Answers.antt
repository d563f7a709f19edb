use Rattle.std.proofs.Common.{◌≡◌, ◌<◌, length, sym, subst, ◌∙◌, arith, rules}
use Rattle.std.specs.Prelude.{vec_len}
use Rattle.flow_book.proofs.Stored.{length-at_places, at_places-at, at_places-remove, order_within, EachOnce-remove}
use Rattle.flow_book.proofs.entries.Entries.remove.Goals as goal

pub index-requires : goal.index-requires
index-requires c =
    let lt : c.args.index < length c.self.inside.order.items = subst (λ n. c.args.index < n) (length-at_places c.self.inside.store.items c.self.inside.order.items) (rw (← c.self.view_is) at c.requires) in
    subst (λ q. q < vec_len c.self.inside.store) (sym c.remove-place.ensures.value)
    (order_within (vec_len c.self.inside.store) c.self.inside.order.items c.self.inside.free.items c.self.invariant.0 c.args.index c.remove-place.result lt)

pub invariant_of-self : goal.invariant_of-self
invariant_of-self c =
    let lt : c.args.index < length c.self.inside.order.items = subst (λ n. c.args.index < n) (length-at_places c.self.inside.store.items c.self.inside.order.items) (rw (← c.self.view_is) at c.requires) in (
      rw (c.remove-place.ensures.items, c.push_reserved.ensures.items)
          (EachOnce-remove (vec_len c.self.inside.store) c.self.inside.order.items c.self.inside.free.items c.self.invariant.0 c.args.index c.remove-place.result lt c.remove-place.ensures.value),
      omega (arith, c.self.invariant.1, c.remove-place.ensures.len, c.push_reserved.ensures.len),
      omega (arith, c.self.invariant.2, c.push_reserved.ensures.capacity),
    )

pub returns-clause-value : goal.returns-clause-value
returns-clause-value c d =
    let lt : c.args.index < length c.self.inside.order.items = subst (λ n. c.args.index < n) (length-at_places c.self.inside.store.items c.self.inside.order.items) (rw (← c.self.view_is) at c.requires) in
    let within : c.remove-place.result < vec_len c.self.inside.store = subst (λ q. q < vec_len c.self.inside.store) (sym c.remove-place.ensures.value)
    (order_within (vec_len c.self.inside.store) c.self.inside.order.items c.self.inside.free.items c.self.invariant.0 c.args.index c.remove-place.result lt) in
    let long : length c.self.inside.store.items ≡ vec_len c.self.inside.store = search rules in
    rw (← c.self.view_is) (
    c.booked.ensures ∙ sym (at_places-at c.self.inside.store.items c.self.inside.order.items c.args.index c.remove-place.result c.index.result.now d lt c.remove-place.ensures.value (omega (arith, within, long)) c.index.ensures))

pub returns-clause-booked : goal.returns-clause-booked
returns-clause-booked c = rw (c.remove-place.ensures.items, ← c.self.view_is) (at_places-remove c.self.inside.store.items c.self.inside.order.items c.args.index)
