use Rattle.std.proofs.Common.{◌+◌, arith, length, ◌∙◌}
use Rattle.xid_map.proofs.Places.{StandsAt, StandsAt-position, Nowhere-position, number_at, HasRoom-here, HasRoom-changed, HasRoom-other}
use Rattle.xid_map.proofs.Gathering.{with_entry-number}
use Rattle.xid_map.proofs.Standing.{CollectionsStand-add, CollectionsStand-add_nowhere}
use Rattle.xid_map.proofs.collections.Collections.add.Goals as goal

pub add-requires : goal.add-requires
add-requires c =
    HasRoom-here c.args.number (length c.args.entry.now) c.in-Some.place c.self.inside.all.items c.index_mut.result.now
    (StandsAt-position c.args.number c.in-Some.place c.self.inside.all.items (rw c.deref.ensures.value at c.in-Some.ensures.value))
    c.index_mut.ensures.value (rw (← c.self.view_is) at c.requires)

pub returns-in-Some-clause-stands : goal.returns-in-Some-clause-stands
returns-in-Some-clause-stands c calls s =
    CollectionsStand-add c.args.number c.args.entry.now c.in-Some.place c.self.inside.all.items c.index_mut.result.now c.add.new.self calls (rw (← c.self.view_is) at s)
    (StandsAt-position c.args.number c.in-Some.place c.self.inside.all.items (rw c.deref.ensures.value at c.in-Some.ensures.value))
    c.index_mut.ensures.value c.add.ensures.gathered

pub returns-in-Some-clause-room : goal.returns-in-Some-clause-room
returns-in-Some-clause-room c more room =
    let at : StandsAt c.args.number c.in-Some.place c.self.inside.all.items = (StandsAt-position c.args.number c.in-Some.place c.self.inside.all.items (rw c.deref.ensures.value at c.in-Some.ensures.value)) in
    HasRoom-changed c.args.number more c.in-Some.place c.self.inside.all.items c.add.new.self at
    (with_entry-number c.args.entry.now c.index_mut.result.now.gathered c.add.new.self.gathered c.add.ensures.gathered
    ∙ number_at c.args.number c.in-Some.place c.self.inside.all.items c.index_mut.result.now at c.index_mut.ensures.value)
    (let le = HasRoom-here c.args.number (length c.args.entry.now + more) c.in-Some.place c.self.inside.all.items c.index_mut.result.now at
    c.index_mut.ensures.value (rw (← c.self.view_is) at room) in omega (arith, c.add.ensures.spare))

pub returns-in-Some-clause-kept : goal.returns-in-Some-clause-kept
returns-in-Some-clause-kept c other more apart room =
    let at : StandsAt c.args.number c.in-Some.place c.self.inside.all.items = (StandsAt-position c.args.number c.in-Some.place c.self.inside.all.items (rw c.deref.ensures.value at c.in-Some.ensures.value)) in
    HasRoom-other other c.args.number more c.in-Some.place c.self.inside.all.items c.add.new.self apart at
    (with_entry-number c.args.entry.now c.index_mut.result.now.gathered c.add.new.self.gathered c.add.ensures.gathered
    ∙ number_at c.args.number c.in-Some.place c.self.inside.all.items c.index_mut.result.now at c.index_mut.ensures.value)
    (rw (← c.self.view_is) at room)

pub returns-in_default-clause-stands : goal.returns-in_default-clause-stands
returns-in_default-clause-stands c calls s =
    rw (← c.self.view_is) (CollectionsStand-add_nowhere c.args.number c.args.entry.now c.self.inside.all.items calls (rw (← c.self.view_is) at s) (Nowhere-position c.args.number c.self.inside.all.items (rw c.deref.ensures.value at c.in_default.ensures.value)))
