use Rattle.std.proofs.Common.{ap, arith}
use Rattle.xid_map.proofs.Places.{StandsAt-position, Nowhere-position, HasRoom-grown}
use Rattle.xid_map.proofs.Standing.{CollectionsStand-sum, CollectionsStand-sum_nowhere}
use Rattle.xid_map.proofs.collections.Collections.sum.Goals as goal

pub returns-in-Some-clause-stands : goal.returns-in-Some-clause-stands
returns-in-Some-clause-stands c calls s =
    CollectionsStand-sum c.args.number c.args.packets c.args.bytes c.in-Some.place c.self.inside.all.items c.index_mut.result.now c.sum.new.self calls (rw (← c.self.view_is) at s)
    (StandsAt-position c.args.number c.in-Some.place c.self.inside.all.items (rw c.deref.ensures.value at c.in-Some.ensures.value))
    c.index_mut.ensures.value c.sum.ensures.gathered

pub returns-in-Some-clause-kept : goal.returns-in-Some-clause-kept
returns-in-Some-clause-kept c other more room =
    HasRoom-grown other c.args.number more c.in-Some.place c.self.inside.all.items c.index_mut.result.now c.sum.new.self
    (StandsAt-position c.args.number c.in-Some.place c.self.inside.all.items (rw c.deref.ensures.value at c.in-Some.ensures.value))
    c.index_mut.ensures.value (ap (λ g. g.number) c.sum.ensures.gathered) (omega (arith, c.sum.ensures.spare))
    (rw (← c.self.view_is) at room)

pub returns-in_default-clause-stands : goal.returns-in_default-clause-stands
returns-in_default-clause-stands c calls s =
    rw (← c.self.view_is) (CollectionsStand-sum_nowhere c.args.number c.args.packets c.args.bytes c.self.inside.all.items calls (rw (← c.self.view_is) at s) (Nowhere-position c.args.number c.self.inside.all.items (rw c.deref.ensures.value at c.in_default.ensures.value)))
