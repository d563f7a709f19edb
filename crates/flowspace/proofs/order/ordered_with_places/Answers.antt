use Rattle.std.proofs.Common.{rules, ℕ}
use Rattle.std.proofs.lemmas.List.Sorted.{answers_always}
use Rattle.std.specs.declared.cmp.Reverse.{Reverse}
use Rattle.flowspace.specs.declared.order.FiledRule.{FiledRule}
use Rattle.flowspace.proofs.Ordering.{ranked-from_filed_sort}
use Rattle.flowspace.proofs.order.ordered_with_places.Goals as goal

pub returns : goal.returns
returns c =
    let key : FiledRule → Reverse ℕ = λ f. record { 0 = f.rule.priority } in
    let keys = answers_always _ _ _ (λ f a r next called. search rules) in
    let sorted = ranked-from_filed_sort c.in_ok-filed.filed.items c.sort_by_key.new.self.items (c.in_ok-sort_by_key.ensures.sorted key keys) (c.sort_by_key.ensures.stable key keys) in
    rw (← c.in_ok-filed.ensures) sorted
