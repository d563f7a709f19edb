use Rattle.std.proofs.Common.{◌≡◌, ◌++◌, length}
use Rattle.std.specs.List.{concat}
use Rattle.switch_side.proofs.statistics.kept_entries.Given as goal
use Rattle.desk_words.specs.Histories.{kept_entries}

abbrev pub invariant-loop-size : goal.invariant-loop-size
invariant-loop-size l = l.kept.items ++ concat (kept_entries l.policy.rules l.slot l.kind l.rest) ≡ concat (kept_entries l.policy.rules l.slot l.kind l.body)

abbrev pub decreases-loop-size : goal.decreases-loop-size
decreases-loop-size l = length l.rest
