use Rattle.xid_map.proofs.Places.{StandsAt-is_some, Nowhere-is_some}
use Rattle.xid_map.proofs.Standing.{collects_nowhere, CollectionsStand-start_again, CollectionsStand-start}
use Rattle.xid_map.proofs.collections.Collections.start.Goals as goal

pub returns-then-is_some-clause-stands : goal.returns-then-is_some-clause-stands
returns-then-is_some-clause-stands c calls s =
    let here = StandsAt-is_some c.args.number c.self.inside.all.items c.place_of.result (rw c.deref.ensures.value at c.place_of.ensures.value) c.if-is_some.ensures in
    rw (← c.self.view_is) (CollectionsStand-start_again c.args.number here.0 c.self.inside.all.items calls (rw (← c.self.view_is) at s) here.1)

pub returns-clause-stands : goal.returns-clause-stands
returns-clause-stands c calls s =
    rw (c.in-Ok.ensures.items, c.make_place.ensures.items)
    (CollectionsStand-start c.args.number c.self.inside.all.items c.new-collection.result calls (rw (← c.self.view_is) at s)
    (Nowhere-is_some c.args.number c.self.inside.all.items c.place_of.result (rw c.deref.ensures.value at c.place_of.ensures.value) c.if-is_some.ensures)
    c.new-collection.ensures)

pub returns-clause-again : goal.returns-clause-again
returns-clause-again c calls s within =
    absurd (collects_nowhere c.args.number c.self.inside.all.items calls (rw (← c.self.view_is) at s)
    (Nowhere-is_some c.args.number c.self.inside.all.items c.place_of.result (rw c.deref.ensures.value at c.place_of.ensures.value) c.if-is_some.ensures) within)
