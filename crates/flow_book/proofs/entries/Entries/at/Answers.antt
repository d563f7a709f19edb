use Rattle.std.proofs.Common.{◌≡◌, ◌<◌, length, sym, subst, arith, rules}
use Rattle.std.specs.Prelude.{vec_len}
use Rattle.flow_book.proofs.Stored.{length-at_places, at_places-at, order_within}
use Rattle.flow_book.proofs.entries.Entries.at.Goals as goal

pub index-requires-2 : goal.index-requires-2
index-requires-2 c =
    let lt : c.args.index < length c.self.inside.order.items = subst (λ n. c.args.index < n) (length-at_places c.self.inside.store.items c.self.inside.order.items) (rw (← c.self.view_is) at c.requires) in
    subst (λ q. q < vec_len c.self.inside.store) (sym c.index.ensures)
    (order_within (vec_len c.self.inside.store) c.self.inside.order.items c.self.inside.free.items c.self.invariant.0 c.args.index c.index.result.now lt)

pub returns : goal.returns
returns c d =
    let lt : c.args.index < length c.self.inside.order.items = subst (λ n. c.args.index < n) (length-at_places c.self.inside.store.items c.self.inside.order.items) (rw (← c.self.view_is) at c.requires) in
    let within : c.index.result.now < vec_len c.self.inside.store = subst (λ q. q < vec_len c.self.inside.store) (sym c.index.ensures)
    (order_within (vec_len c.self.inside.store) c.self.inside.order.items c.self.inside.free.items c.self.invariant.0 c.args.index c.index.result.now lt) in
    let long : length c.self.inside.store.items ≡ vec_len c.self.inside.store = search rules in
    rw (← c.self.view_is) (at_places-at c.self.inside.store.items c.self.inside.order.items c.args.index c.index.result.now c.index-2.result.now d lt c.index.ensures (omega (arith, within, long)) c.index-2.ensures)
