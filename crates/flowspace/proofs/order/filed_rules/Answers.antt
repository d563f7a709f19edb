use Rattle.flowspace.proofs.Filed.{filed_more}
use Rattle.flowspace.proofs.order.filed_rules.Goals as goal

pub loop-place-preserved : goal.loop-place-preserved
loop-place-preserved c =
    let more = filed_more c.args.rules.now c.loop-place.place c.index-rules-place.result c.loop-place-test.true in
    cc (c.in_ok-push.ensures.items, c.index-rules-place.is, c.loop-place.invariant)
