use Rattle.live_session.specs.Stretches.{spot}
use Rattle.live_session.proofs.Ending.{stretch_of, was_fault, was_closed}
use Rattle.live_session.proofs.reader.run_reader.Goals as goal

pub returns-clause-stretch : goal.returns-clause-stretch
returns-clause-stretch g c =
    stretch_of c.args.side (spot c.args.seat.now (g.C.Clock.coming c.args.clock.now)) (spot c.begin-end.new.seat (g.C.Clock.coming c.begin-end.new.clock)) (spot c.finish-end.new.seat (g.C.Clock.coming c.finish-end.new.clock)) (g.S.Source.left c.args.source.now) (g.S.Source.left c.begin-end.new.source) c.begin-end.result c.finish-end.result c.begin-end.ensures.begun c.finish-end.ensures.finished

pub returns-clause-fault : goal.returns-clause-fault
returns-clause-fault g c = λ e. c.begin-end.ensures.fault (was_fault c.args.side c.begin-end.result c.finish-end.result (spot c.begin-end.new.seat (g.C.Clock.coming c.begin-end.new.clock)) (spot c.finish-end.new.seat (g.C.Clock.coming c.finish-end.new.clock)) c.finish-end.ensures.finished e)

pub returns-clause-closed : goal.returns-clause-closed
returns-clause-closed g c = λ e. c.begin-end.ensures.closed (was_closed c.args.side c.begin-end.result c.finish-end.result (spot c.begin-end.new.seat (g.C.Clock.coming c.begin-end.new.clock)) (spot c.finish-end.new.seat (g.C.Clock.coming c.finish-end.new.clock)) c.finish-end.ensures.finished e)
