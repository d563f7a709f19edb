use Rattle.std.proofs.Common.{rules, ℕ}
use Rattle.std.proofs.lemmas.List.Sorted.{answers_always}
use Rattle.std.specs.declared.cmp.Reverse.{Reverse}
use Rattle.flowspace.specs.declared.rules.Rule.{Rule}
use Rattle.flowspace.proofs.Ordering.{in_order-from_sort}
use Rattle.flowspace.proofs.order.sorted.Goals as goal

pub returns : goal.returns
returns c =
    let key : Rule → Reverse ℕ = λ r. record { 0 = r.priority } in
    let keys = answers_always _ _ _ (λ f a r next called. search rules) in
    in_order-from_sort c.args.rules.items c.sort_by_key.new.self.items (c.in_ok-sort_by_key.ensures.sorted key keys) (c.sort_by_key.ensures.stable key keys)
