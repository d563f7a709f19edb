use Rattle.std.proofs.Common.{ap}
use Rattle.xid_map.proofs.Numbering.{RequestsStand-issue}
use Rattle.xid_map.proofs.map.XidMap.issue.Goals as goal

pub returns-clause-stands : goal.returns-clause-stands
returns-clause-stands c slot calls s =
    RequestsStand-issue (record { slot = c.self.inside.slot; issued = c.self.inside.issued; remembered = c.self.inside.ring.items }) slot calls c.args.asked
    c.next-number.result.0 c.self.inside.ring.capacity c.push_front.new.self.items (rw (← c.self.view_is) at s)
    (rw (← c.self.view_is) at c.next-number.ensures.number) c.self.invariant (ap (λ b. b.items) c.push_front.ensures.items)
