use Rattle.test_rules.proofs.Rows.{IsRow}
use Rattle.test_rules.proofs.tests.stats.replying.flow_entries.Given as goal

abbrev pub invariant-loop : goal.invariant-loop
invariant-loop l = IsRow l.entries.items
