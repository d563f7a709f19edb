use Rattle.live_desk.specs.declared.object.DeskReply.TheVariants.{Stepped}
use Rattle.live_session.specs.Stretches.{spot}
use Rattle.live_session.proofs.Ending.{begins_spent, begins_end, begins_reading}
use Rattle.live_session.proofs.reader.begin.Goals as goal

pub returns-in_default-clause-begun : goal.returns-in_default-clause-begun
returns-in_default-clause-begun g c = begins_spent c.args.facts.now.side (spot c.args.seat.now (g.C.Clock.coming c.args.clock.now)) (spot c.ask_alone-stepped.new.seat (g.C.Clock.coming c.ask_alone-stepped.new.clock)) (g.S.Source.left c.args.source.now) c.in_default.ensures.same c.in_default.ensures.spent

pub returns-in-Some-clause-begun : goal.returns-in-Some-clause-begun
returns-in-Some-clause-begun g c = begins_end c.args.facts.now.side (spot c.args.seat.now (g.C.Clock.coming c.args.clock.now)) (spot c.ask_alone-stepped.new.seat (g.C.Clock.coming c.ask_alone-stepped.new.clock)) (g.S.Source.left c.args.source.now) (Stepped c.in-Ok.stepped) c.in-Some.end (rw (← c.up.ensures) c.in-Ok.ensures.went) c.in-Some.ensures

pub returns-clause-begun : goal.returns-clause-begun
returns-clause-begun g c = begins_reading c.args.facts.now.side (spot c.args.seat.now (g.C.Clock.coming c.args.clock.now)) (spot c.ask_alone-stepped.new.seat (g.C.Clock.coming c.ask_alone-stepped.new.clock)) (spot c.read_all.new.seat (g.C.Clock.coming c.read_all.new.clock)) (g.S.Source.left c.args.source.now) (g.S.Source.left c.read_all.new.source) (Stepped c.in-Ok.stepped) c.read_all.result (rw (← c.up.ensures) c.in-Ok.ensures.went) c.in_default-end_by.ensures c.read_all.ensures.reading
