use Rattle.std.proofs.Common.{◌≡◌, length}
use Rattle.policy_text.specs.Rules.{are_different}
use Rattle.policy_text.proofs.names.few_are_different.Given as goal

abbrev pub invariant-loop-rest : goal.invariant-loop-rest
invariant-loop-rest l = are_different l.rest ≡ are_different l.slots

abbrev pub decreases-loop-rest : goal.decreases-loop-rest
decreases-loop-rest l = length l.rest
