use Rattle.std.proofs.Common.{◌<◌, ◌≤◌, length, ap, arith}
use Rattle.flowspace.specs.Places.{IsWritesOf}
use Rattle.flowspace.proofs.Placing.{none_written, none_past, some_at}
use Rattle.flowspace.proofs.switch.SwitchPolicy.writes_of.Goals as goal

pub returns-clause-none : goal.returns-clause-none
returns-clause-none c =
    let items = ap length c.deref.ensures.value in
    let count = c.self.invariant.1 in
    let from = c.from.ensures in
    none_past c.get.result c.from.result (length c.deref.result.now) _ c.get.ensures.lookup.0
    (λ le.
    let past : length c.self.inside.slices.items ≤ c.args.slot = omega arith in
    rw (← c.self.view_is) (none_written c.self.inside.rules.items c.args.slot (length c.self.inside.slices.items) past c.self.invariant.0.proper.writers_known))

pub returns-clause-some : goal.returns-clause-some
returns-clause-some c =
    let items = ap length c.deref.ensures.value in
    let from = c.from.ensures in
    some_at c.get.result c.deref.result.now c.from.result (IsWritesOf c.args.self.now.rules c.args.slot) c.get.ensures.lookup.0 c.get.ensures.lookup.1
    (λ d lt.
    let own : c.args.slot < length c.self.inside.writes.items = omega arith in
    rw (← c.self.view_is, c.deref.ensures.value, c.from.ensures) (c.self.invariant.2 c.args.slot d own))
