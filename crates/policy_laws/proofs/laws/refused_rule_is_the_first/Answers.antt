use Rattle.policy_laws.proofs.Firsts.{rules_read, rules_refused}
use Rattle.policy_laws.proofs.laws.refused_rule_is_the_first.Goals as goal

pub returns : goal.returns
returns c = record {
  read = λ slices items rules. rules_read slices items rules;
  refused = λ slices items fault. rules_refused slices items fault;
}
