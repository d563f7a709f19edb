use Rattle.std.proofs.lemmas.Result.{on_ok_weaker, on_err_weaker}
use Rattle.std.proofs.Common.{ap, arith, ◌∙◌, ◌≤◌}
use Rattle.xid_map.proofs.Places.{StandsAt, StandsAt-position, Nowhere-position, number_at, HasRoom-changed, HasRoom-grown, HasRoom-nowhere, HasRoom-here}
use Rattle.xid_map.proofs.Standing.{CollectionsStand-reserve}
use Rattle.xid_map.proofs.collections.Collections.reserve.Goals as goal

pub returns-in-Some-clause-room : goal.returns-in-Some-clause-room
returns-in-Some-clause-room c =
    let at : StandsAt c.args.number c.in-Some.place c.self.inside.all.items = (StandsAt-position c.args.number c.in-Some.place c.self.inside.all.items (rw c.deref.ensures.value at c.in-Some.ensures.value)) in
    on_ok_weaker c.reserve.result (λ le. HasRoom-changed c.args.number c.args.bytes c.in-Some.place c.self.inside.all.items c.reserve.new.self at
    (ap (λ g. g.number) c.reserve.ensures.gathered ∙ number_at c.args.number c.in-Some.place c.self.inside.all.items c.index_mut.result.now at c.index_mut.ensures.value) le)
    c.reserve.ensures.ok

pub returns-in-Some-clause-stands : goal.returns-in-Some-clause-stands
returns-in-Some-clause-stands c calls s =
    CollectionsStand-reserve c.args.number c.in-Some.place c.self.inside.all.items c.index_mut.result.now c.reserve.new.self calls (rw (← c.self.view_is) at s)
    (StandsAt-position c.args.number c.in-Some.place c.self.inside.all.items (rw c.deref.ensures.value at c.in-Some.ensures.value))
    c.index_mut.ensures.value c.reserve.ensures.gathered

pub returns-in-Some-clause-kept : goal.returns-in-Some-clause-kept
returns-in-Some-clause-kept c other more room =
    HasRoom-grown other c.args.number more c.in-Some.place c.self.inside.all.items c.index_mut.result.now c.reserve.new.self
    (StandsAt-position c.args.number c.in-Some.place c.self.inside.all.items (rw c.deref.ensures.value at c.in-Some.ensures.value))
    c.index_mut.ensures.value (ap (λ g. g.number) c.reserve.ensures.gathered) c.reserve.ensures.kept
    (rw (← c.self.view_is) at room)

pub returns-in-None-clause-room : goal.returns-in-None-clause-room
returns-in-None-clause-room c =
    rw (← c.self.view_is) (HasRoom-nowhere c.args.number c.args.bytes c.self.inside.all.items (Nowhere-position c.args.number c.self.inside.all.items (rw c.deref.ensures.value at c.in-None.ensures.value)))

pub returns-in-Some-clause-full : goal.returns-in-Some-clause-full
returns-in-Some-clause-full c =
    on_err_weaker c.reserve.result
    (λ less room.
    let at : StandsAt c.args.number c.in-Some.place c.self.inside.all.items = StandsAt-position c.args.number c.in-Some.place c.self.inside.all.items (rw c.deref.ensures.value at c.in-Some.ensures.value) in
    let much : c.args.bytes ≤ c.index_mut.result.now.spare = HasRoom-here c.args.number c.args.bytes c.in-Some.place c.self.inside.all.items c.index_mut.result.now at c.index_mut.ensures.value (rw (← c.self.view_is) at room) in
    omega arith)
    c.reserve.ensures.full
