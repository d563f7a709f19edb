use Rattle.turn_desk.specs.Seats.{SameDesk}
use Rattle.live_serve.proofs.work.end_switch.Given as goal

abbrev pub invariant-loop : goal.invariant-loop
invariant-loop g l = record {
  can : (goal.iterator-loop g).can_next l.iterator';
  ends : (goal.iterator-loop g).is_finite l.iterator';
  desk : SameDesk l.seat l.fn.seat;
}
