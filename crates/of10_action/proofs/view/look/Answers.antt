use Rattle.std.proofs.Common.{◌≡◌, ◌<◌, ℕ, [], ◌∷◌, ◌++◌, false, eqb, sym, arith}
use Rattle.std.proofs.lemmas.Bool.{eqb-true, eqb-false}
use Rattle.std.proofs.lemmas.List.Elements.{All-push}
use Rattle.of10_action.specs.Actions.{IsAction}
use Rattle.of10_action.specs.Reading.{read_all}
use Rattle.of10_action.proofs.Loop.{goes_on, ends, is_done}
use Rattle.of10_action.proofs.Views.{are_in, right_in}
use Rattle.of10_action.proofs.view.look.Goals as goal

above_zero : (n : ℕ) → eqb n 0 ≡ false → 0 < n
above_zero n e = let h = eqb-false n 0 e in omega (arith, h)

pub returns-in-Err-clause-exact : goal.returns-in-Err-clause-exact
returns-in-Err-clause-exact c =
    let so_far = c.loop-rest.invariant.so_far in
    ends so_far.0 c.loop-rest.rest.now c.in-Err.fault (read_all c.args.bytes.now) (above_zero _ (sym c.loop-rest-test.ensures)) c.in-Err.ensures.value so_far.2

pub loop-rest-preserved : goal.loop-rest-preserved
loop-rest-preserved c =
    let so_far = c.loop-rest.invariant.so_far in
    let action = c.in-Ok.field-0-0 in
    record {
      so_far = (
        so_far.0 ++ action ∷ [],
        All-push IsAction so_far.0 action so_far.1 c.in-Ok.ensures.range,
        goes_on so_far.0 c.loop-rest.rest.now action c.in-Ok.after.now (read_all c.args.bytes.now) c.in-Ok.ensures.value so_far.2,
      );
    }

pub returns-clause-exact : goal.returns-clause-exact
returns-clause-exact c =
    let so_far = c.loop-rest.invariant.so_far in
    are_in c.args.bytes.now so_far.0 (is_done so_far.0 c.loop-rest.rest.now (read_all c.args.bytes.now) (eqb-true _ _ (sym c.loop-rest-test.ensures)) so_far.2)

pub returns-clause-range : goal.returns-clause-range
returns-clause-range c =
    let so_far = c.loop-rest.invariant.so_far in
    right_in c.args.bytes.now so_far.0 (is_done so_far.0 c.loop-rest.rest.now (read_all c.args.bytes.now) (eqb-true _ _ (sym c.loop-rest-test.ensures)) so_far.2) so_far.1
