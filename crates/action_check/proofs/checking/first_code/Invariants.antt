use Rattle.std.proofs.Common.{◌≡◌, drop}
use Rattle.action_check.specs.Permitted.{first_code}
use Rattle.action_check.specs.Verdicts.{AreVerdicts}
use Rattle.action_check.proofs.checking.first_code.Given as goal

abbrev pub invariant-loop-action : goal.invariant-loop-action
invariant-loop-action l =
    (first_code l.policy.rules l.slot l.image (drop l.action-index l.actions) ≡ first_code l.policy.rules l.slot l.origin l.actions)
    × AreVerdicts l.policy.rules l.slot l.image l.verdicts
