use Rattle.std.proofs.Common.{◌≡◌, ◌≤◌, ◌+◌, ◌-◌, ◌++◌, length, take, drop}
use Rattle.flowspace.specs.Swaps.{pairs_of}
use Rattle.port_turns.specs.Sent.{piece_size, turn_all}
use Rattle.port_turns.proofs.sending.turn_pieces.Given as goal

abbrev pub invariant-loop-size : goal.invariant-loop-size
invariant-loop-size l = record {
  turning : take l.at l.frame ++ turn_all (pairs_of l.policy.swaps l.slot) l.piece (drop l.at l.frame) ≡ take l.from l.fn.frame ++ turn_all (pairs_of l.policy.swaps l.slot) l.piece (drop l.from l.fn.frame);
  first : l.size ≡ piece_size l.piece (drop l.at l.frame);
  body : 8 ≤ l.at;
  within : l.at + l.size ≤ length l.frame;
  size : length l.frame ≡ length l.fn.frame;
}

abbrev pub decreases-loop-size : goal.decreases-loop-size
decreases-loop-size l = length l.frame - l.at
