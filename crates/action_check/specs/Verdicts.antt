-- What is kept of an image while actions leave it as it is. This is the proxy's own rule.
use Rattle.std.specs.Prelude.{ℕ, ◌≡◌, Bool, if◌then◌else◌, List, Option, Some, IfSome}
use Rattle.flowspace.specs.declared.rules.Rule.{Rule}
use Rattle.action_check.specs.declared.origin.Origin.{Origin}
use Rattle.action_check.specs.declared.verdicts.Verdicts.{Verdicts}
use Rattle.action_check.specs.ActionRules.{sees_in_port, may_go}

-- the verdict that is kept for a port: one for those that see where a packet came in, and one for all others
abbrev pub verdict_kept : Verdicts → ℕ → Option Bool
verdict_kept verdicts port = if sees_in_port port then verdicts.seeing else verdicts.aside

-- the verdicts with one more
abbrev pub with_verdict : Verdicts → ℕ → Bool → Verdicts
with_verdict verdicts port verdict = if sees_in_port port then record verdicts { seeing = Some verdict } else record verdicts { aside = Some verdict }

-- what is kept for a port is whether the image may go there
abbrev pub AreVerdicts : List Rule → ℕ → Origin → Verdicts → Type 0
AreVerdicts rules slot image verdicts = (port : ℕ) → IfSome (verdict_kept verdicts port) (λ verdict. verdict ≡ may_go rules slot image port)
