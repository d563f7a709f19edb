use Rattle.std.proofs.Common.{◌≡◌, ℕ, List, [], length, ap, sym, ◌∙◌, subst, arith}
use Rattle.std.proofs.lemmas.List.{nil_from_length}
use Rattle.std.specs.Vec.Iter.{into_iter_items}
use Rattle.switch_side.specs.Changes.{StatesHaveRoom}
use Rattle.switch_side.specs.declared.change.Change.{Change}
use Rattle.switch_side.proofs.Making.{AllOnTheWay, all_begin, all_end, all_step, first_room, later_room}
use Rattle.switch_side.proofs.applying.apply_each.Goals as goal

pub apply_at-requires : goal.apply_at-requires
apply_at-requires c =
    let at = c.loop-slot in
    first_room c.in-Some.slot c.in-Some.change (into_iter_items c.next.new.self) at.states.items
    (subst (λ (listed : List (ℕ × Change)). StatesHaveRoom listed at.states.items) c.in-Some.ensures.steps.0 at.invariant.room)

pub loop-slot-preserved : goal.loop-slot-preserved
loop-slot-preserved c =
    let at = c.loop-slot in
    let steps = c.in-Some.ensures.steps in
    let short = ap length steps.0 in
    let was = at.invariant.whole in
    let gone = steps.1 in
    record {
      whole = omega arith;
      room = later_room c.in-Some.slot c.in-Some.change (into_iter_items c.next.new.self) at.states.items c.apply_at.new.states.items
          (subst (λ (listed : List (ℕ × Change)). StatesHaveRoom listed at.states.items) steps.0 at.invariant.room) c.apply_at.ensures;
      count = c.apply_at.ensures.count ∙ at.invariant.count;
      way = λ p switch sides moment message begun.
          all_step p switch sides moment message c.in-Some.slot c.in-Some.change (into_iter_items c.next.new.self) at.states.items c.apply_at.new.states.items c.apply_at.ensures
          (subst (λ (listed : List (ℕ × Change)). AllOnTheWay p switch sides moment message listed at.states.items) steps.0 (at.invariant.way p switch sides moment message begun));
    }

pub returns-clause-stands : goal.returns-clause-stands
returns-clause-stands c p switch sides moment message stand are =
    let at = c.loop-slot in
    let empty : into_iter_items at.slot-iterator ≡ [] = nil_from_length _ (sym at.invariant.whole ∙ c.in-None.ensures.steps.0) in
    let begun = all_begin p switch sides moment message c.args.changes.items c.args.states.now.items stand are in
    all_end p switch sides moment message at.states.items
    (subst (λ (listed : List (ℕ × Change)). AllOnTheWay p switch sides moment message listed at.states.items) empty
    (at.invariant.way p switch sides moment message
    (subst (λ (listed : List (ℕ × Change)). AllOnTheWay p switch sides moment message listed c.args.states.now.items) (sym c.into_iter-slot-iterator.ensures.into_iter_gives.0) begun)))
