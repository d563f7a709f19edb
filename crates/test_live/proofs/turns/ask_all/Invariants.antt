use Rattle.turn_desk.specs.Seats.{IsSeatOf}
use Rattle.test_live.proofs.turns.ask_all.Given as goal

abbrev pub invariant-loop : goal.invariant-loop
invariant-loop g l = IsSeatOf l.desk l.seat
