use Rattle.std.specs.Prelude.{[], Some}
use Rattle.live_session.specs.Stretches.{spot}
use Rattle.live_session.proofs.Ending.{stretch_of}
use Rattle.live_session.proofs.slice.ask_without_link.Goals as goal

pub returns-clause-unlinked : goal.returns-clause-unlinked
returns-clause-unlinked g c =
    stretch_of c.args.facts.now.side (spot c.args.seat.now (g.C.Clock.coming c.args.clock.now)) (spot c.begin_without_link-end.new.seat (g.C.Clock.coming c.begin_without_link-end.new.clock)) (spot c.finish.new.seat (g.C.Clock.coming c.finish.new.clock)) (Some []) (Some []) c.begin_without_link-end.result c.finish.result c.begin_without_link-end.ensures.begun c.finish.ensures.finished
