use Rattle.std.specs.Arc.{arc_value}
use Rattle.turn_desk.specs.Seats.{IsSeatOf}
use Rattle.turn_bench.proofs.asker.turn_askers.Given as goal

abbrev pub invariant-loop : goal.invariant-loop
invariant-loop l = IsSeatOf (arc_value l.turns).desk l.seat
