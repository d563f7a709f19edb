use Rattle.std.proofs.Common.{◌≡◌, [], take, drop}
use Rattle.flowspace.specs.Loading.{first_along, rule_fault}
use Rattle.flowspace.proofs.loading.first_rule_fault.Given as goal

abbrev pub invariant-loop-place : goal.invariant-loop-place
invariant-loop-place l = first_along (rule_fault l.slots) (take l.place l.rules) (drop l.place l.rules) ≡ first_along (rule_fault l.slots) [] l.rules
