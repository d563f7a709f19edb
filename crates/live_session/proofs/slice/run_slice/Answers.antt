use Rattle.std.proofs.Common.{inl, inr, refl}
use Rattle.live_session.specs.Stretches.{spot}
use Rattle.live_session.proofs.slice.run_slice.Goals as goal

pub returns-in_default-clause-sliced : goal.returns-in_default-clause-sliced
returns-in_default-clause-sliced g c = inr (refl, c.in_default.ensures.spent, refl, refl)

pub returns-clause-sliced : goal.returns-clause-sliced
returns-clause-sliced g c =
    let l = c.dial_on-end.ensures.links in
    inl (record {
      mid = spot c.await_open.new.seat (g.C.Clock.coming c.args.clock.now);
      opening = c.in-Ok.ensures.opening;
      clock = refl;
      ways = l.0;
      linked = l.1;
      ended = l.2;
      told = l.3;
    })
