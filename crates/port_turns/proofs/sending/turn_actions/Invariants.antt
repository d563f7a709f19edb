use Rattle.std.proofs.Common.{◌≡◌, ◌≤◌, ◌-◌, length}
use Rattle.flowspace.specs.Swaps.{pairs_of}
use Rattle.port_turns.specs.Turns.{turn_list}
use Rattle.port_turns.specs.Sent.{turned_part}
use Rattle.port_turns.proofs.Parts.{Turning}
use Rattle.port_turns.proofs.InPlace.{IsRight}
use Rattle.port_turns.proofs.sending.turn_actions.Given as goal

abbrev pub invariant-loop-at : goal.invariant-loop-at
invariant-loop-at l = record {
  turning : Turning (turn_list (pairs_of l.policy.swaps l.slot)) IsRight l.frame l.at l.end (turned_part (turn_list (pairs_of l.policy.swaps l.slot)) l.from (l.end - l.from) l.fn.frame);
  body : 8 ≤ l.at;
  size : length l.frame ≡ length l.fn.frame;
}

abbrev pub decreases-loop-at : goal.decreases-loop-at
decreases-loop-at l = l.end - l.at
