use Rattle.std.proofs.lemmas.Result.{on_ok_weaker}
use Rattle.switch_side.proofs.Answered.{dispatched}
use Rattle.switch_side.proofs.Showing.{shown_dispatch}
use Rattle.switch_side.proofs.Turns.{called_at, all_called}
use Rattle.switch_side.proofs.reacting.react_in.Goals as goal

pub returns : goal.returns
returns c = record {
  dispatch = λ p switch sides moment around stand numbered.
      let answered =
      dispatched p switch sides moment c.args.policy.now c.args.ports.now c.args.states.now c.args.frame.now c.dispatch.new.spare.dispatch c.requires.count c.slices-slices.ensures.policy c.dispatch.ensures.right around stand numbered
      (c.in_ok-dispatch.ensures.value (called_at p switch sides) (all_called p switch sides c.args.states.now stand)) in
      on_ok_weaker c.show.result (λ is. shown_dispatch p switch sides moment c.args.frame.now c.args.policy.now c.args.ports.now c.dispatch.new.spare.dispatch _ around answered is) c.show.ensures;
}
