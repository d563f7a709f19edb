use Rattle.std.proofs.Common.{◌∙◌}
use Rattle.live_session.proofs.Linking.{opens, still_early}
use Rattle.live_session.proofs.slice.await_open.Goals as goal

pub returns-then-not-is_early-clause-opening : goal.returns-then-not-is_early-clause-opening
returns-then-not-is_early-clause-opening g c =
    opens c.args.slot c.args.seat.now.seat.me.0 c.loop.seat.seat.me.0 c.take_alone.new.seat.seat.me.0 c.args.seat.now.left c.loop.seat.left c.take_alone.new.seat.left c.in_ok-taken.taken c.loop.invariant.early c.in_ok-taken.ensures.took c.if-not-is_early.ensures

pub loop-preserved : goal.loop-preserved
loop-preserved g c = record {
  can = tt;
  ends = tt;
  desk = c.in_ok-taken.ensures.desk ∙ c.loop.invariant.desk;
  early = still_early c.args.slot c.args.seat.now.seat.me.0 c.loop.seat.seat.me.0 c.take_alone.new.seat.seat.me.0 c.args.seat.now.left c.loop.seat.left c.take_alone.new.seat.left c.in_ok-taken.taken c.loop.invariant.early c.in_ok-taken.ensures.took c.if-not-is_early.ensures;
}
