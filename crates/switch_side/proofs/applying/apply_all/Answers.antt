use Rattle.std.proofs.Common.{◌≡◌, ℕ, List, [], length, sym, ◌∙◌, subst, rules, eqb-true}
use Rattle.std.specs.Prelude.{vec_len}
use Rattle.std.proofs.lemmas.List.{nil_from_length}
use Rattle.switch_side.specs.declared.change.Change.{Change}
use Rattle.switch_side.proofs.Making.{AllOnTheWay, all_begin, all_end}
use Rattle.switch_side.proofs.applying.apply_all.Goals as goal

pub returns-then-is_empty-clause-stands : goal.returns-then-is_empty-clause-stands
returns-then-is_empty-clause-stands c p switch sides moment message stand are =
    let count : vec_len c.args.changes.now ≡ length c.args.changes.now.items = search rules in
    let none : c.args.changes.now.items ≡ [] = nil_from_length _ (sym count ∙ eqb-true (vec_len c.args.changes.now) 0 (sym c.is_empty.ensures ∙ c.if-is_empty.true)) in
    all_end p switch sides moment message c.args.states.now.items
    (subst (λ (listed : List (ℕ × Change)). AllOnTheWay p switch sides moment message listed c.args.states.now.items) none
    (all_begin p switch sides moment message c.args.changes.now.items c.args.states.now.items stand are))

pub returns-clause-stands : goal.returns-clause-stands
returns-clause-stands c p switch sides moment message stand are =
    c.apply_each.ensures.stands p switch sides moment message stand (rw c.replace.ensures.value are)
