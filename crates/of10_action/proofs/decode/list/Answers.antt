use Rattle.std.proofs.Common.{◌≡◌, ◌<◌, ℕ, inr, false, eqb, sym, arith}
use Rattle.std.proofs.lemmas.Bool.{eqb-true, eqb-false}
use Rattle.std.proofs.lemmas.List.Elements.{All-push}
use Rattle.of10_action.specs.Actions.{IsAction, HasAddress}
use Rattle.of10_action.specs.Reading.{read_all}
use Rattle.of10_action.proofs.Loop.{goes_on, ends, is_done, is_begun}
use Rattle.of10_action.proofs.decode.list.Goals as goal

above_zero : (n : ℕ) → eqb n 0 ≡ false → 0 < n
above_zero n e = let h = eqb-false n 0 e in omega (arith, h)

pub returns-in-Err-clause-exact : goal.returns-in-Err-clause-exact
returns-in-Err-clause-exact c = ends c.loop-rest.actions.items c.loop-rest.rest.now c.in-Err.fault (read_all c.args.bytes.now) (above_zero _ (sym c.loop-rest-test.ensures)) c.in-Err.ensures.value c.loop-rest.invariant.so_far

pub loop-rest-preserved : goal.loop-rest-preserved
loop-rest-preserved c = record {
  so_far = rw c.in_ok-push.ensures.items (goes_on c.loop-rest.actions.items c.loop-rest.rest.now c.in-Ok.found.0 c.in-Ok.found.1.now (read_all c.args.bytes.now) c.in-Ok.ensures.value c.loop-rest.invariant.so_far);
  begun = inr (is_begun c.args.bytes.now c.loop-rest.rest.now (c.in-Ok.found.0, c.in-Ok.found.1.now) c.in-Ok.ensures.value c.loop-rest.invariant.begun);
  range = rw c.in_ok-push.ensures.items (All-push IsAction c.loop-rest.actions.items c.in-Ok.found.0 c.loop-rest.invariant.range c.in-Ok.ensures.range);
  address = rw c.in_ok-push.ensures.items (All-push HasAddress c.loop-rest.actions.items c.in-Ok.found.0 c.loop-rest.invariant.address c.in-Ok.ensures.address);
}

pub returns-clause-exact : goal.returns-clause-exact
returns-clause-exact c = is_done c.loop-rest.actions.items c.loop-rest.rest.now (read_all c.args.bytes.now) (eqb-true _ _ (sym c.loop-rest-test.ensures)) c.loop-rest.invariant.so_far
