use Rattle.std.proofs.Common.{ℕ, ◌≡◌, take}
use Rattle.std.specs.List.{list_any}
use Rattle.std.specs.Ordering.{nat_cmp}
use Rattle.std.specs.BTreeSet.{contains}
use Rattle.flowspace.specs.Owners.{is_rule_at}
use Rattle.flowspace.proofs.writes.entry_ports.Given as goal

abbrev pub invariant-loop-rule : goal.invariant-loop-rule
invariant-loop-rule l = (port : ℕ) → contains nat_cmp l.named port ≡ list_any (is_rule_at l.slot port) (take l.rule-index l.rules)
