use Rattle.std.proofs.Common.{◌≤◌, length, subst, arith}
use Rattle.std.specs.Prelude.{All}
use Rattle.std.proofs.lemmas.List.{length_push, take_all}
use Rattle.std.proofs.lemmas.Slice.Zip.{zip_turn, zip_end}
use Rattle.flow_book.specs.declared.state.SliceState.{SliceState}
use Rattle.flow_book.specs.Order.{ArePairsInOrder}
use Rattle.policy_change.proofs.Staying.{slices_one_more, states_one_more}
use Rattle.policy_change.proofs.planned.planned.Goals as goal

pub loop-slice-preserved : goal.loop-slice-preserved
loop-slice-preserved c =
    let turn = zip_turn c.args.slices.now c.args.states.now c.loop-slice.yielded _ _ c.next.new.self _ (cc) (cc) c.loop-slice.yielded_by (c.in-Some.slice, c.in-Some.state) c.in-Some.is c.next.ensures.steps in
    let next = length_push c.loop-slice.yielded (c.in-Some.slice, c.in-Some.state) in
    record {
      so_far = slices_one_more c.args.new.now c.args.slices.now c.args.states.now (length c.loop-slice.yielded) _ c.in-Some.slice.now c.in-Some.state.now c.loop-slice.pairs.items c.add_planned.new.to.items _ turn.0 turn.1 (turn.2 c.in-Some.slice.now) (turn.3 c.in-Some.state.now) next c.loop-slice.invariant.so_far c.in_ok-add_planned.ensures.pairs;
      order = states_one_more c.args.states.now (length c.loop-slice.yielded) _ c.in-Some.state.now turn.1 (turn.3 c.in-Some.state.now) next c.in_ok-add_planned.ensures.order c.loop-slice.invariant.order;
    }

pub returns-clause-order : goal.returns-clause-order
returns-clause-order c =
    let count = zip_end c.args.slices.now c.args.states.now c.loop-slice.yielded _ _ c.next.new.self _ (cc) (cc) c.loop-slice.yielded_by c.in-None.is c.next.ensures.steps in
    let same = c.requires in
    let whole : length c.args.states.now ≤ length c.loop-slice.yielded = omega (arith, count, same) in
    subst (λ xs. All (λ (state : SliceState). ArePairsInOrder state.book.booked) xs) (take_all (length c.loop-slice.yielded) c.args.states.now whole) c.loop-slice.invariant.order
