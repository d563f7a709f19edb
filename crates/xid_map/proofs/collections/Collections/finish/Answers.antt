use Rattle.std.proofs.Common.{refl}
use Rattle.xid_map.specs.Collections.{entries_of}
use Rattle.xid_map.proofs.Places.{StandsAt-position, Nowhere-position, HasRoom-removed}
use Rattle.xid_map.proofs.Standing.{collection_of-at, collection_of-nowhere, CollectionsStand-finish, CollectionsStand-finish_nowhere}
use Rattle.xid_map.proofs.collections.Collections.finish.Goals as goal

pub returns-in_err-place-clause-value : goal.returns-in_err-place-clause-value
unfolding entries_of
returns-in_err-place-clause-value c calls s =
    rw (c.from_residual.ensures, collection_of-nowhere c.args.number c.self.inside.all.items calls (rw (← c.self.view_is) at s) (Nowhere-position c.args.number c.self.inside.all.items (rw c.deref.ensures.value at c.in_err-place.ensures.value))) refl

pub returns-in_err-place-clause-stands : goal.returns-in_err-place-clause-stands
returns-in_err-place-clause-stands c calls s =
    rw (← c.self.view_is) (CollectionsStand-finish_nowhere c.args.number c.self.inside.all.items calls (rw (← c.self.view_is) at s) (Nowhere-position c.args.number c.self.inside.all.items (rw c.deref.ensures.value at c.in_err-place.ensures.value)))

pub returns-clause-value : goal.returns-clause-value
unfolding entries_of
returns-clause-value c calls s =
    rw (
      c.into_entries.ensures,
      collection_of-at c.args.number c.in_ok-place.place c.self.inside.all.items c.remove-collection.result calls (rw (← c.self.view_is) at s)
          (StandsAt-position c.args.number c.in_ok-place.place c.self.inside.all.items (rw c.deref.ensures.value at c.in_ok-place.ensures.value))
          c.remove-collection.ensures.value,
    ) refl

pub returns-clause-stands : goal.returns-clause-stands
returns-clause-stands c calls s =
    rw c.remove-collection.ensures.items (CollectionsStand-finish c.args.number c.in_ok-place.place c.self.inside.all.items calls (rw (← c.self.view_is) at s)
    (StandsAt-position c.args.number c.in_ok-place.place c.self.inside.all.items (rw c.deref.ensures.value at c.in_ok-place.ensures.value)))

pub returns-clause-kept : goal.returns-clause-kept
returns-clause-kept c other more apart room =
    rw c.remove-collection.ensures.items (HasRoom-removed other c.args.number more c.in_ok-place.place c.self.inside.all.items apart
    (StandsAt-position c.args.number c.in_ok-place.place c.self.inside.all.items (rw c.deref.ensures.value at c.in_ok-place.ensures.value))
    (rw (← c.self.view_is) at room))
