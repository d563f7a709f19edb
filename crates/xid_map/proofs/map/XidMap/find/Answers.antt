use Rattle.std.proofs.Common.{◌∙◌}
use Rattle.xid_map.proofs.Numbering.{RequestsStand-found, RequestsStand-elsewhere}
use Rattle.xid_map.proofs.map.XidMap.find.Goals as goal

pub returns-then-physical-from : goal.returns-then-physical-from
returns-then-physical-from c slot calls s =
    RequestsStand-elsewhere (record { slot = c.self.inside.slot; issued = c.self.inside.issued; remembered = c.self.inside.ring.items }) slot calls
    c.args.physical (rw (← c.self.view_is) at s) (rw (c.from-physical.ensures, c.from.ensures) at c.if-physical-from.true)

pub returns : goal.returns
returns c slot calls s =
    c.copied.ensures ∙ c.get.ensures ∙ rw c.from-physical.ensures
    (RequestsStand-found (record { slot = c.self.inside.slot; issued = c.self.inside.issued; remembered = c.self.inside.ring.items }) slot calls
    c.args.physical (rw (← c.self.view_is) at s) (rw (c.from-physical.ensures, c.from.ensures) at c.if-physical-from.false))
