use Rattle.flowspace.specs.Swaps.{pairs_of}
use Rattle.port_turns.specs.Sent.{turn_out}
use Rattle.port_turns.proofs.Each.{map_over_set}
use Rattle.port_turns.proofs.sending.turn_all_out.Goals as goal

pub loop-frame-preserved : goal.loop-frame-preserved
loop-frame-preserved c =
    map_over_set (turn_out (pairs_of c.args.policy.now.swaps c.args.slot)) c.args.frames.now c.loop-frame.frames c.loop-frame.frame-index _ _ c.loop-frame-test.true c.loop-frame.auto.frames c.loop-frame.invariant c.in_ok-turn_out.ensures
