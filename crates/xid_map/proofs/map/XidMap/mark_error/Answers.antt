use Rattle.std.proofs.Common.{refl}
use Rattle.xid_map.specs.Requests.{MarkError, with_error, requests}
use Rattle.xid_map.proofs.Numbering.{mark_set, mark_missing, mark_later}
use Rattle.xid_map.proofs.map.XidMap.mark_error.Goals as goal

pub returns-in-Some-get_mut-clause-stands : goal.returns-in-Some-get_mut-clause-stands
unfolding requests
returns-in-Some-get_mut-clause-stands c slot calls s =
    mark_set (record { slot = c.self.inside.slot; issued = c.self.inside.issued; remembered = c.self.inside.ring.items }) slot calls (MarkError c.args.number) with_error c.args.number
    c.in-Some.place c.in-Some-get_mut.request.now (refl, refl) (rw (← c.self.view_is) at s) (rw (← c.self.view_is) at c.in-Some.ensures) c.in-Some-get_mut.ensures.value

pub returns-in_default-get_mut-clause-stands : goal.returns-in_default-get_mut-clause-stands
unfolding requests
returns-in_default-get_mut-clause-stands c slot calls s =
    mark_missing (record { slot = c.self.inside.slot; issued = c.self.inside.issued; remembered = c.self.inside.ring.items }) slot calls (MarkError c.args.number) with_error c.args.number
    c.in-Some.place (refl, refl) (rw (← c.self.view_is) at s) (rw (← c.self.view_is) at c.in-Some.ensures) c.in_default-get_mut.ensures.value

pub returns-in_default-clause-stands : goal.returns-in_default-clause-stands
unfolding requests
returns-in_default-clause-stands c slot calls s = mark_later c.args.self.now slot calls (MarkError c.args.number) with_error c.args.number (refl, refl) s c.in_default.ensures
