use Rattle.std.proofs.Common.{◌≡◌, ◌<◌, length, get_or, set, sym, ap, subst, ◌∙◌, arith, rules}
use Rattle.std.specs.Prelude.{vec_len}
use Rattle.flow_book.specs.declared.booked.Booked.{Booked}
use Rattle.flow_book.specs.Store.{at_places}
use Rattle.flow_book.proofs.Stored.{length-at_places, at_places-at, at_places-set, order_within, order_once}
use Rattle.flow_book.proofs.entries.Entries.set_asked.Goals as goal

pub index_mut-requires : goal.index_mut-requires
index_mut-requires c =
    let lt : c.args.index < length c.self.inside.order.items = subst (λ n. c.args.index < n) (length-at_places c.self.inside.store.items c.self.inside.order.items) (rw (← c.self.view_is) at c.requires) in
    subst (λ q. q < vec_len c.self.inside.store) (sym c.index.ensures)
    (order_within (vec_len c.self.inside.store) c.self.inside.order.items c.self.inside.free.items c.self.invariant.0 c.args.index c.index.result.now lt)

pub returns-clause-booked : goal.returns-clause-booked
returns-clause-booked c d =
    let store = c.self.inside.store.items in
    let order = c.self.inside.order.items in
    let place = c.index.result.now in
    let lt : c.args.index < length order = subst (λ n. c.args.index < n) (length-at_places store order) (rw (← c.self.view_is) at c.requires) in
    let within : place < vec_len c.self.inside.store = subst (λ q. q < vec_len c.self.inside.store) (sym c.index.ensures)
    (order_within (vec_len c.self.inside.store) order c.self.inside.free.items c.self.invariant.0 c.args.index place lt) in
    let long : length store ≡ vec_len c.self.inside.store = search rules in
    let inside : place < length store = omega (arith, within, long) in
    let read : get_or (at_places store order) c.args.index d ≡ c.index_mut.result.now = at_places-at store order c.args.index place c.index_mut.result.now d lt c.index.ensures inside c.index_mut.ensures.value in
    rw (← c.self.view_is) (
    at_places-set store order c.args.index place place c.set_asked.new.self lt (sym c.index.ensures) (order_once (vec_len c.self.inside.store) order c.self.inside.free.items c.self.invariant.0 place) inside
    ∙ ap (λ (b : Booked). set (at_places store order) c.args.index b) (c.set_asked.ensures ∙ ap (λ (b : Booked). record b { asked = c.args.asked }) (sym read)))
