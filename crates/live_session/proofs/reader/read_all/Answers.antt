use Rattle.live_session.specs.Stretches.{spot}
use Rattle.live_session.proofs.Ending.{reads_nothing}
use Rattle.live_session.proofs.reader.read_all.Goals as goal

pub returns-in_default-clause-reading : goal.returns-in_default-clause-reading
returns-in_default-clause-reading g c = reads_nothing c.args.facts.now.side (spot c.args.seat.now (g.C.Clock.coming c.args.clock.now)) (g.S.Source.left c.args.source.now)
