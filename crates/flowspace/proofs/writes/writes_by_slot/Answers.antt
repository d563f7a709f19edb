use Rattle.flowspace.proofs.Covering.{writes_more}
use Rattle.flowspace.proofs.writes.writes_by_slot.Goals as goal

pub loop-slot-preserved : goal.loop-slot-preserved
loop-slot-preserved c =
    writes_more c.args.rules.now c.loop-slot.writes.items c.push.new.self.items c.in_ok-writes_of.field-0 c.loop-slot.slot c.loop-slot.invariant c.in_ok-writes_of.ensures c.in_ok-push.ensures.items
