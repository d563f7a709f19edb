use Rattle.std.proofs.Common.{ℕ, [], ◌∷◌, List, Ok, Err, subst}
use Rattle.desk_words.specs.Reports.{slice_line}
use Rattle.event_player.specs.Telling.{says}
use Rattle.event_player.specs.Holding.{Holds, with_waiting}
use Rattle.event_player.specs.Players.{HasTold}
use Rattle.event_player.proofs.Holding.{holds_own}
use Rattle.event_player.proofs.Players.{told_still}
use Rattle.event_player.proofs.Draining.{drained_first, drained_more, drained_part, drained_all}
use Rattle.event_player.proofs.player.Player.drain_slice.Goals as goal

pub loop-message-init : goal.loop-message-init
loop-message-init g c = record {
  drained = λ scene h slices lane is holds.
      drained_first (says g.T.Teller.Tells) scene (λ messages. Holds scene.policy h (with_waiting c.args.slot messages slices) lane c.args.desk.now) (slice_line scene.place c.args.slot c.args.name.now) (slices c.args.slot) c.args.self.now is
      (holds_own scene.policy h c.args.slot slices lane c.args.desk.now holds);
}

pub returns-in_err-say : goal.returns-in_err-say
returns-in_err-say g c = λ scene h slices lane is holds.
    let line = slice_line scene.place c.args.slot c.args.name.now in
    let now = c.loop-message.self in
    let later = c.say.new.self in
    let d = c.loop-message.invariant.drained scene h slices lane is holds in
    drained_part (says g.T.Teller.Tells) scene (λ messages. Holds scene.policy h (with_waiting c.args.slot messages slices) lane c.loop-message.desk) line (slices c.args.slot) c.args.self.now now later c.in-Some.message _ c.from_residual.result d
    (c.in-Some.ensures.takes scene.policy h slices d.left lane d.holds).0 c.from_residual.ensures.1
    (subst (λ (m : List ℕ). HasTold {A = Unit {0}} (says g.T.Teller.Tells) scene (Unit {0}) (Err c.in_err-say.field-0.0) (line m ∷ []) now later) c.as_slice.ensures.value (c.in_err-say.ensures scene d.told.at))

pub loop-message-preserved : goal.loop-message-preserved
loop-message-preserved g c = record {
  drained = λ scene h slices lane is holds.
      let line = slice_line scene.place c.args.slot c.args.name.now in
      let now = c.loop-message.self in
      let told = c.say.new.self in
      let later = c.keep.new.self in
      let d = c.loop-message.invariant.drained scene h slices lane is holds in
      let next = c.in-Some.ensures.takes scene.policy h slices d.left lane d.holds in
      drained_more (says g.T.Teller.Tells) scene (λ messages. Holds scene.policy h (with_waiting c.args.slot messages slices) lane c.loop-message.desk) (λ messages. Holds scene.policy h (with_waiting c.args.slot messages slices) lane c.next_of_slice.new.desk) line (slices c.args.slot) c.args.self.now now later c.in-Some.message tt d next.0 next.1
      (told_still (says g.T.Teller.Tells) scene (Ok tt) (line c.in-Some.message ∷ []) now told later c.keep.ensures (subst (λ (m : List ℕ). HasTold {A = Unit {0}} (says g.T.Teller.Tells) scene (Unit {0}) (Ok tt) (line m ∷ []) now told) c.as_slice.ensures.value (c.in_ok-say.ensures scene d.told.at)));
}

pub returns : goal.returns
returns g c = λ scene h slices lane is holds.
    let d = c.loop-message.invariant.drained scene h slices lane is holds in
    let next = c.in_default.ensures.takes scene.policy h slices d.left lane d.holds in
    drained_all (says g.T.Teller.Tells) scene (λ messages. Holds scene.policy h (with_waiting c.args.slot messages slices) lane c.loop-message.desk) (λ messages. Holds scene.policy h (with_waiting c.args.slot messages slices) lane c.next_of_slice.new.desk) (slice_line scene.place c.args.slot c.args.name.now) (slices c.args.slot) c.args.self.now c.loop-message.self tt d next.0 next.1
