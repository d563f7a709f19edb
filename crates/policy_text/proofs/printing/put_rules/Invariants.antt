use Rattle.std.proofs.Common.{◌≡◌, ◌++◌, length, string_bytes}
use Rattle.std.specs.List.{AllByRecursion}
use Rattle.policy_text.specs.Printing.{rules_text, IsRuleInRange}
use Rattle.policy_text.proofs.printing.put_rules.Given as goal

abbrev pub invariant-loop-rest : goal.invariant-loop-rest
invariant-loop-rest l = (string_bytes l.out ++ rules_text l.slices l.rest ≡ string_bytes l.initial.out ++ rules_text l.slices l.rules) × (AllByRecursion IsRuleInRange l.rest → AllByRecursion IsRuleInRange l.rules)

abbrev pub decreases-loop-rest : goal.decreases-loop-rest
decreases-loop-rest l = length l.rest
