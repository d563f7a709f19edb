use Rattle.std.proofs.Common.{◌≡◌, ◌++◌, take, drop, map}
use Rattle.flowspace.specs.Swaps.{pairs_of}
use Rattle.port_turns.specs.Sent.{turn_out}
use Rattle.port_turns.proofs.sending.turn_all_out.Given as goal

abbrev pub invariant-loop-frame : goal.invariant-loop-frame
invariant-loop-frame l = l.frames ≡ map (turn_out (pairs_of l.policy.swaps l.slot)) (take l.frame-index l.fn.frames) ++ drop l.frame-index l.fn.frames
