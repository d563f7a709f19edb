use Rattle.std.proofs.Common.{take}
use Rattle.flowspace.specs.Policies.{AreNormal}
use Rattle.nested_slices.proofs.normal.see_all_normal.Given as goal

abbrev pub invariant-loop-rule : goal.invariant-loop-rule
invariant-loop-rule l = AreNormal (take l.rule-index l.rules)
