use Rattle.std.proofs.Common.{◌≤◌, length, sym, ap, arith}
use Rattle.std.proofs.lemmas.Bool.{ltb-false}
use Rattle.flowspace.proofs.Swapping.{beyond_stays}
use Rattle.flowspace.proofs.switch.SwitchPolicy.swapped.Goals as goal

pub returns-in-None : goal.returns-in-None
returns-in-None c =
    let items = ap length c.deref.ensures.value in
    let count = c.self.invariant.4 in
    let from = c.from.ensures in
    let past : length c.deref.result.now ≤ c.from.result = ltb-false c.from.result (length c.deref.result.now) (sym c.in-None.ensures.lookup.0) in
    let beyond : length c.self.inside.slices.items ≤ c.args.slot = omega (arith, items, count, from, past) in
    rw (← c.self.view_is) (beyond_stays (length c.self.inside.slices.items) c.args.slot c.args.port c.self.inside.swaps.items c.self.invariant.3 beyond)
