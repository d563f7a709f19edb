use Rattle.flowspace.specs.Order.{rules_on}
use Rattle.flowspace.proofs.Parts.{IsSwitchPolicy-rules_on}
use Rattle.flowspace.proofs.Owning.{Writes-iff}
use Rattle.flowspace.proofs.laws.slice_writes_the_union_of_its_rules.Goals as goal

pub returns : goal.returns
returns c = record {
  one_switch = λ slices rules policy slot h range. Writes-iff slices rules policy slot h range;
  each_switch = λ slices rules policy datapath slot h range. Writes-iff slices (rules_on datapath rules) (IsSwitchPolicy-rules_on slices rules datapath policy) slot h range;
}
