use Rattle.std.proofs.Common.{◌++◌, take, refl, subst, ◌∙◌}
use Rattle.of10_ctl.specs.Streams.{frames_of}
use Rattle.fv_base.specs.Told.{Rose}
use Rattle.live_session.specs.Stretches.{spot}
use Rattle.live_session.proofs.Taking.{takes_none, takes_memory, takes_more, takes_end, not_at_end, not_at_fault}
use Rattle.live_session.proofs.reader.read_on.Goals as goal

pub loop-init : goal.loop-init
loop-init g c = record {
  can = tt;
  ends = tt;
  desk = refl;
  calm = refl;
  read = takes_none c.args.facts.now.side (spot c.args.seat.now (g.C.Clock.coming c.args.clock.now)) (g.S.Source.left c.args.source.now) c.new-framer.result c.new-framer.ensures;
}

pub returns-in_default-clause-fault : goal.returns-in_default-clause-fault
returns-in_default-clause-fault g c = λ e. subst (λ n. Rose n (g.S.Source.faults c.take.new.self)) c.loop.invariant.calm c.in_default.ensures.cause

pub returns-in_default-feed-clause-reading : goal.returns-in_default-feed-clause-reading
returns-in_default-feed-clause-reading g c =
    let a = spot c.args.seat.now (g.C.Clock.coming c.args.clock.now) in
    let b = spot c.loop.seat (g.C.Clock.coming c.loop.clock) in
    takes_memory c.args.facts.now.side a b (g.S.Source.left c.args.source.now) (g.S.Source.left c.loop.source) (g.S.Source.left c.take.new.self) c.loop.framer (take c.in-Ok.taken c.take.new.into) c.loop.invariant.read c.in-Ok.ensures.moved

pub returns-in-Some-end-clause-reading : goal.returns-in-Some-end-clause-reading
returns-in-Some-end-clause-reading g c =
    let a = spot c.args.seat.now (g.C.Clock.coming c.args.clock.now) in
    let b = spot c.loop.seat (g.C.Clock.coming c.loop.clock) in
    let d = spot c.hand_on-end.new.seat (g.C.Clock.coming c.hand_on-end.new.clock) in
    let h = c.loop.invariant.read in
    let piece = take c.in-Ok.taken c.take.new.into in
    takes_end c.args.facts.now.side a b d (g.S.Source.left c.args.source.now) (g.S.Source.left c.loop.source) (g.S.Source.left c.take.new.self) c.loop.framer c.hand_on-end.new.framer piece c.in-Some-end.end h c.in-Ok.ensures.moved (c.in-Some-end.ensures.handed (h.0 ++ piece) (frames_of h.0) (c.in-Ok-feed.ensures.stands h.0 (frames_of h.0) h.2))

pub returns-in-Some-end-clause-fault : goal.returns-in-Some-end-clause-fault
returns-in-Some-end-clause-fault g c = λ e.
    let b = spot c.loop.seat (g.C.Clock.coming c.loop.clock) in
    let d = spot c.hand_on-end.new.seat (g.C.Clock.coming c.hand_on-end.new.clock) in
    let h = c.loop.invariant.read in
    let piece = take c.in-Ok.taken c.take.new.into in
    absurd (not_at_fault c.args.facts.now.side b d c.hand_on-end.new.framer (h.0 ++ piece) (frames_of h.0) c.in-Some-end.end (c.in-Some-end.ensures.handed (h.0 ++ piece) (frames_of h.0) (c.in-Ok-feed.ensures.stands h.0 (frames_of h.0) h.2)) e)

pub returns-in-Some-end-clause-closed : goal.returns-in-Some-end-clause-closed
returns-in-Some-end-clause-closed g c = λ e.
    let b = spot c.loop.seat (g.C.Clock.coming c.loop.clock) in
    let d = spot c.hand_on-end.new.seat (g.C.Clock.coming c.hand_on-end.new.clock) in
    let h = c.loop.invariant.read in
    let piece = take c.in-Ok.taken c.take.new.into in
    absurd (not_at_end c.args.facts.now.side b d c.hand_on-end.new.framer (h.0 ++ piece) (frames_of h.0) c.in-Some-end.end (c.in-Some-end.ensures.handed (h.0 ++ piece) (frames_of h.0) (c.in-Ok-feed.ensures.stands h.0 (frames_of h.0) h.2)) e)

pub loop-preserved : goal.loop-preserved
loop-preserved g c =
    let a = spot c.args.seat.now (g.C.Clock.coming c.args.clock.now) in
    let b = spot c.loop.seat (g.C.Clock.coming c.loop.clock) in
    let d = spot c.hand_on-end.new.seat (g.C.Clock.coming c.hand_on-end.new.clock) in
    let h = c.loop.invariant.read in
    let piece = take c.in-Ok.taken c.take.new.into in
    record {
      can = tt;
      ends = tt;
      desk = c.in_default-end.ensures.desk ∙ c.loop.invariant.desk;
      calm = c.in-Ok.ensures.calm ∙ c.loop.invariant.calm;
      read = takes_more c.args.facts.now.side a b d (g.S.Source.left c.args.source.now) (g.S.Source.left c.loop.source) (g.S.Source.left c.take.new.self) c.loop.framer c.hand_on-end.new.framer piece h c.in-Ok.ensures.moved (c.in_default-end.ensures.handed (h.0 ++ piece) (frames_of h.0) (c.in-Ok-feed.ensures.stands h.0 (frames_of h.0) h.2));
    }
