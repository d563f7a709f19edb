use Rattle.std.proofs.Common.{filter}
use Rattle.flowspace.specs.Rules.{holds}
use Rattle.flowspace.proofs.Ordering.{IsRuleOrder-in_order, in_order-from_IsRuleOrder}
use Rattle.flowspace.proofs.order.rules_stand_in_order.Goals as goal

pub returns : goal.returns
returns c = record {
  order = λ datapath rules. IsRuleOrder-in_order (filter (holds datapath) rules);
  only = λ datapath rules ordered h. in_order-from_IsRuleOrder (filter (holds datapath) rules) ordered h;
}
