use Rattle.std.proofs.Common.{◌++◌, refl, sym, subst, ◌∙◌}
use Rattle.of10_ctl.specs.Streams.{Stands, frame_in}
use Rattle.live_desk.specs.declared.object.DeskReply.TheVariants.{Stepped}
use Rattle.live_session.specs.Stretches.{spot}
use Rattle.live_session.proofs.Handing.{hands_none, hands_more, hands_all, hands_last, hands_memory, hands_spent, hands_end}
use Rattle.live_session.proofs.reader.hand_each.Goals as goal

pub loop-init : goal.loop-init
loop-init g c = record {
  can = tt;
  ends = tt;
  desk = refl;
  handed = λ fed given stands. hands_none c.args.facts.now.side (spot c.args.seat.now (g.C.Clock.coming c.args.clock.now)) c.args.framer.now fed given stands;
}

pub returns-in-Ok-NeedMore : goal.returns-in-Ok-NeedMore
returns-in-Ok-NeedMore g c =
    let a = spot c.args.seat.now (g.C.Clock.coming c.args.clock.now) in
    let b = spot c.loop.seat (g.C.Clock.coming c.loop.clock) in
    record {
      desk = c.loop.invariant.desk;
      handed = λ fed given stands.
          let h = c.loop.invariant.handed fed given stands in
          hands_all c.args.facts.now.side a b c.loop.framer c.next-in-loop.new.self fed given h (sym c.in-Ok-NeedMore.field-0-is ∙ c.in-Ok-NeedMore.ensures.gives.answer fed (given ++ h.0) h.2) (subst (λ n. Stands c.next-in-loop.new.self fed ((given ++ h.0) ++ frame_in n)) c.in-Ok-NeedMore.field-0-is (c.in-Ok-NeedMore.ensures.gives.stands fed (given ++ h.0) h.2));
    }

pub returns-in-Ok-Ended : goal.returns-in-Ok-Ended
returns-in-Ok-Ended g c =
    let a = spot c.args.seat.now (g.C.Clock.coming c.args.clock.now) in
    let b = spot c.loop.seat (g.C.Clock.coming c.loop.clock) in
    record {
      desk = c.loop.invariant.desk;
      handed = λ fed given stands.
          let h = c.loop.invariant.handed fed given stands in
          hands_last c.args.facts.now.side a b c.loop.framer c.next-in-loop.new.self fed given h (sym c.in-Ok-Ended.field-0-is ∙ c.in-Ok-Ended.ensures.gives.answer fed (given ++ h.0) h.2) (subst (λ n. Stands c.next-in-loop.new.self fed ((given ++ h.0) ++ frame_in n)) c.in-Ok-Ended.field-0-is (c.in-Ok-Ended.ensures.gives.stands fed (given ++ h.0) h.2));
    }

pub returns-in-Err-clause-handed : goal.returns-in-Err-clause-handed
returns-in-Err-clause-handed g c = λ fed given stands.
    let a = spot c.args.seat.now (g.C.Clock.coming c.args.clock.now) in
    let b = spot c.loop.seat (g.C.Clock.coming c.loop.clock) in
    hands_memory c.args.facts.now.side a b c.loop.framer c.next-in-loop.new.self fed given (c.loop.invariant.handed fed given stands)

pub returns-in_default-clause-handed : goal.returns-in_default-clause-handed
returns-in_default-clause-handed g c = λ fed given stands.
    let a = spot c.args.seat.now (g.C.Clock.coming c.args.clock.now) in
    let b = spot c.loop.seat (g.C.Clock.coming c.loop.clock) in
    let d = spot c.ask_in_turn-asked.new.seat (g.C.Clock.coming c.ask_in_turn-asked.new.clock) in
    hands_spent c.args.facts.now.side a b d c.loop.framer c.next-in-loop.new.self fed given (c.loop.invariant.handed fed given stands) c.in_default.ensures.same c.in_default.ensures.spent

pub returns-in-Some-end_by-clause-handed : goal.returns-in-Some-end_by-clause-handed
returns-in-Some-end_by-clause-handed g c = λ fed given stands.
    let a = spot c.args.seat.now (g.C.Clock.coming c.args.clock.now) in
    let b = spot c.loop.seat (g.C.Clock.coming c.loop.clock) in
    let d = spot c.ask_in_turn-asked.new.seat (g.C.Clock.coming c.ask_in_turn-asked.new.clock) in
    let h = c.loop.invariant.handed fed given stands in
    hands_end c.args.facts.now.side a b d c.loop.framer c.next-in-loop.new.self fed given c.in-Ok-Frame.frame (Stepped c.in-Ok.stepped) c.in-Some-end_by.end h (subst (λ n. Stands c.next-in-loop.new.self fed ((given ++ h.0) ++ frame_in n)) c.in-Ok-Frame.field-0-is (c.in-Ok-Frame.ensures.gives.stands fed (given ++ h.0) h.2)) (rw (← c.message-event.ensures) c.in-Ok.ensures.went) c.in-Some-end_by.ensures

pub loop-preserved : goal.loop-preserved
loop-preserved g c =
    let a = spot c.args.seat.now (g.C.Clock.coming c.args.clock.now) in
    let b = spot c.loop.seat (g.C.Clock.coming c.loop.clock) in
    let d = spot c.ask_in_turn-asked.new.seat (g.C.Clock.coming c.ask_in_turn-asked.new.clock) in
    record {
      can = tt;
      ends = tt;
      desk = c.in-Ok.ensures.desk ∙ c.loop.invariant.desk;
      handed = λ fed given stands.
          let h = c.loop.invariant.handed fed given stands in
          hands_more c.args.facts.now.side a b d c.loop.framer c.next-in-loop.new.self fed given c.in-Ok-Frame.frame (Stepped c.in-Ok.stepped) h (subst (λ n. Stands c.next-in-loop.new.self fed ((given ++ h.0) ++ frame_in n)) c.in-Ok-Frame.field-0-is (c.in-Ok-Frame.ensures.gives.stands fed (given ++ h.0) h.2)) (rw (← c.message-event.ensures) c.in-Ok.ensures.went) c.in_default-end_by.ensures;
    }
