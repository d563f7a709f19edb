use Rattle.policy_laws.proofs.Firsts.{slice_stands, rule_stands, swap_stands}
use Rattle.policy_laws.proofs.laws.fault_stands_in_its_table.Goals as goal

pub returns : goal.returns
returns c = record {
  slice = λ index ms fault e. slice_stands index ms fault e;
  rule = λ slices index ms fault e. rule_stands slices index ms fault e;
  port = λ slices index ms fault e. swap_stands slices index ms fault e;
}
