use Rattle.std.proofs.Common.{◌≤◌}
use Rattle.flowvisor_bench.proofs.parts.issued.Given as goal

abbrev pub invariant-loop-number : goal.invariant-loop-number
invariant-loop-number l = l.map.issued ≤ l.number
