use Rattle.std.specs.Prelude.{[], Some}
use Rattle.live_desk.specs.declared.object.DeskReply.TheVariants.{Stepped}
use Rattle.live_session.specs.declared.ends.ReaderEnd.TheVariants.{Closed}
use Rattle.live_session.specs.Stretches.{spot}
use Rattle.live_session.proofs.Ending.{begins_spent, begins_end, begins_reading, reads_no_bytes}
use Rattle.live_session.proofs.slice.begin_without_link.Goals as goal

pub returns-in_default-clause-begun : goal.returns-in_default-clause-begun
returns-in_default-clause-begun g c = begins_spent c.args.facts.now.side (spot c.args.seat.now (g.C.Clock.coming c.args.clock.now)) (spot c.ask_alone.new.seat (g.C.Clock.coming c.ask_alone.new.clock)) (Some []) c.in_default.ensures.same c.in_default.ensures.spent

pub returns-in-Some-clause-begun : goal.returns-in-Some-clause-begun
returns-in-Some-clause-begun g c = begins_end c.args.facts.now.side (spot c.args.seat.now (g.C.Clock.coming c.args.clock.now)) (spot c.ask_alone.new.seat (g.C.Clock.coming c.ask_alone.new.clock)) (Some []) (Stepped c.in-Ok.stepped) c.in-Some.end (rw (← c.up-event.ensures) c.in-Ok.ensures.went) c.in-Some.ensures

pub returns-clause-begun : goal.returns-clause-begun
returns-clause-begun g c =
    let b = spot c.ask_alone.new.seat (g.C.Clock.coming c.ask_alone.new.clock) in
    begins_reading c.args.facts.now.side (spot c.args.seat.now (g.C.Clock.coming c.args.clock.now)) b b (Some []) (Some []) (Stepped c.in-Ok.stepped) Closed (rw (← c.up-event.ensures) c.in-Ok.ensures.went) c.in_default-end_by.ensures (reads_no_bytes c.args.facts.now.side b)
