use Rattle.switch_side.proofs.Making.{MakesRoom}
use Rattle.switch_side.proofs.applying.reserve.Given as goal

abbrev pub invariant-loop-slot : goal.invariant-loop-slot
invariant-loop-slot l = MakesRoom l.changes l.slot-index l.next l.initial.states l.states
