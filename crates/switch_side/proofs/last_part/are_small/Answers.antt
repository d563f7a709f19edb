use Rattle.std.proofs.Common.{arith}
use Rattle.switch_side.proofs.Walking.{small_first, small_none}
use Rattle.switch_side.proofs.last_part.are_small.Goals as goal

pub loop-size-preserved : goal.loop-size-preserved
loop-size-preserved c later =
    c.loop-size.invariant
    (small_first c.args.kind c.loop-size.rest.now c.split_at.result.0.now c.split_at.result.1.now
    (record { size = c.in-Some.size; there = c.in-Some.ensures.value; front = c.split_at.ensures.front; back = c.split_at.ensures.back })
    (let long = c.split_at.ensures.front_len in let few = c.if-size-gt-PAGE.false in omega arith) later)

pub returns : goal.returns
returns c is = c.loop-size.invariant (small_none c.args.kind c.loop-size.rest.now c.in_default.ensures.value)
