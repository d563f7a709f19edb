use Rattle.std.proofs.Common.{◌≡◌, take}
use Rattle.flowspace.specs.Loading.{filed}
use Rattle.flowspace.proofs.order.filed_rules.Given as goal

abbrev pub invariant-loop-place : goal.invariant-loop-place
invariant-loop-place l = l.filed.items ≡ filed 0 (take l.place l.rules)
