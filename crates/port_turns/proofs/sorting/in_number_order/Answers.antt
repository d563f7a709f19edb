use Rattle.std.proofs.Common.{rules, ℕ, List, ap, ◌∙◌, length}
use Rattle.std.proofs.lemmas.List.Sorted.{answers_always}
use Rattle.std.specs.declared.cmp.Reverse.{Reverse}
use Rattle.port_turns.specs.Sent.{descent}
use Rattle.port_turns.proofs.Ordered.{in_number_order-from_sort, in_number_order-length}
use Rattle.port_turns.proofs.sorting.in_number_order.Goals as goal

pub returns-clause-value : goal.returns-clause-value
returns-clause-value c =
    let key : List ℕ → Reverse ℕ = λ port. record { 0 = descent port } in
    let keys = answers_always _ _ _ (λ f a r next called. search rules) in
    in_number_order-from_sort c.args.ports.items c.sort_by_key.new.self.items (c.in_ok-sort_by_key.ensures.sorted key keys) (c.sort_by_key.ensures.stable key keys)

pub returns-clause-count : goal.returns-clause-count
returns-clause-count c = ap length (returns-clause-value c) ∙ in_number_order-length c.args.ports.items
