use Rattle.live_desk.specs.declared.object.DeskReply.TheVariants.{Stepped}
use Rattle.live_session.specs.Stretches.{spot}
use Rattle.live_session.proofs.Going.{went_one}
use Rattle.live_session.proofs.reader.ask.Goals as goal

pub returns-clause-went : goal.returns-clause-went
returns-clause-went g c = went_one (spot c.args.seat.now (g.C.Clock.coming c.args.clock.now)) (spot c.step.new.seat (g.C.Clock.coming c.now-moment.new.self)) c.args.event c.now-moment.result (Stepped c.in-Ok.stepped) c.in-Ok.ensures.called c.now-moment.ensures c.in-Ok.ensures.fewer
