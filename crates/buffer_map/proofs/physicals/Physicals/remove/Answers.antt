use Rattle.std.proofs.Common.{arith}
use Rattle.std.proofs.lemmas.Bool.{both_ways}
use Rattle.std.specs.List.{list_any}
use Rattle.std.specs.Prelude.{◌==◌}
use Rattle.buffer_map.proofs.Index.{removed-searched, absent-searched}
use Rattle.buffer_map.proofs.physicals.Physicals.remove.Goals as goal

pub invariant_of-self : goal.invariant_of-self
invariant_of-self c =
    let out = removed-searched c.self.inside.all.items c.args.physical c.in-Ok.place c.self.invariant.0 (rw c.deref.ensures.value at c.in-Ok.ensures.position) in
    (rw c.remove.ensures.items out.0, omega (arith, c.self.invariant.1, c.remove.ensures.capacity))

pub returns-in-Ok : goal.returns-in-Ok
returns-in-Ok c there =
    let out = removed-searched c.self.inside.all.items c.args.physical c.in-Ok.place c.self.invariant.0 (rw c.deref.ensures.value at c.in-Ok.ensures.position) in
    rw (← c.self.view_is, c.remove.ensures.items) out.1

pub returns-in_default : goal.returns-in_default
returns-in_default c there =
    absurd (both_ways (list_any (λ other. other == c.args.physical) c.self.inside.all.items)
    (absent-searched c.self.inside.all.items c.args.physical c.binary_search.result c.self.invariant.0 (rw c.deref.ensures.value at c.binary_search.ensures.position) c.in_default.not-Ok)
    (rw (← c.self.view_is) at there))
