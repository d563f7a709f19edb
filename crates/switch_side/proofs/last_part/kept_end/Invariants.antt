use Rattle.std.proofs.Common.{◌-◌, length}
use Rattle.switch_side.proofs.Walking.{IsKept}
use Rattle.switch_side.proofs.last_part.kept_end.Given as goal

abbrev pub invariant-loop-size : goal.invariant-loop-size
invariant-loop-size l = IsKept l.kind l.room l.entries l.end

abbrev pub decreases-loop-size : goal.decreases-loop-size
decreases-loop-size l = length l.entries - l.end
