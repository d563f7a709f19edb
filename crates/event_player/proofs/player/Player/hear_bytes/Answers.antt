use Rattle.std.proofs.Common.{◌≡◌, ◌++◌, List, [], ℕ, Option, None, IfNone, map, drop, length, subst}
use Rattle.of10_ctl.specs.Streams.{Stream, frames_of, with_piece}
use Rattle.of10_ctl.proofs.Standing.{stands_behind}
use Rattle.event_player.specs.Streams.{TookFrame}
use Rattle.event_player.specs.Players.{later}
use Rattle.event_player.specs.Plays.{event_from, happening}
use Rattle.event_player.proofs.Playing.{hearing_first, hearing_still, hearing_more, hearing_part, hearing_stopped, hearing_all}
use Rattle.event_player.proofs.Recorded.{frames_fed}
use Rattle.event_player.proofs.Streaming.{nothing_behind}
use Rattle.event_player.proofs.player.Player.hear_bytes.Goals as goal

pub loop-frame-init : goal.loop-frame-init
loop-frame-init g c = record {
  hearing = λ scene h fed is quiet framed stands.
      let all = fed ++ c.args.bytes.now in
      hearing_first g.T.Teller.Tells scene c.args.from h all (frames_of fed) (drop (length (frames_of fed)) (frames_of all)) c.args.self.now c.args.desk.now (with_piece c.args.framer.now c.args.bytes.now) is quiet framed
      (stands_behind c.args.framer.now c.args.bytes.now fed (frames_of fed) stands) (frames_fed fed c.args.bytes.now);
}

pub returns-in_err-frame : goal.returns-in_err-frame
returns-in_err-frame g c = λ scene h fed is quiet framed stands.
    let all = fed ++ c.args.bytes.now in
    let rest = drop (length (frames_of fed)) (frames_of all) in
    let own = happening scene.policy scene.moment h (map (event_from c.args.from) rest) in
    hearing_stopped g.T.Teller.Tells scene (later (length own) scene) c.args.from h rest all c.args.self.now c.next_frame.new.self c.loop-frame.desk (with_piece c.loop-frame.framer c.loop-frame.piece.now) c.from_residual.result
    (hearing_still g.T.Teller.Tells scene c.args.from h rest all c.args.self.now c.loop-frame.self c.next_frame.new.self c.loop-frame.desk (with_piece c.loop-frame.framer c.loop-frame.piece.now) c.next_frame.ensures.on (c.loop-frame.invariant.hearing scene h fed is quiet framed stands)) c.from_residual.ensures.1

pub returns-in_err-hear_one : goal.returns-in_err-hear_one
returns-in_err-hear_one g c = λ scene h fed is quiet framed stands.
    let all = fed ++ c.args.bytes.now in
    let rest = drop (length (frames_of fed)) (frames_of all) in
    let own = happening scene.policy scene.moment h (map (event_from c.args.from) rest) in
    let s = hearing_still g.T.Teller.Tells scene c.args.from h rest all c.args.self.now c.loop-frame.self c.next_frame.new.self c.loop-frame.desk (with_piece c.loop-frame.framer c.loop-frame.piece.now) c.next_frame.ensures.on (c.loop-frame.invariant.hearing scene h fed is quiet framed stands) in
    let took = subst (λ (next : Option (List ℕ)). TookFrame next all s.given (with_piece c.next_frame.new.framer c.next_frame.new.piece.now)) c.in-Some.is (c.in_ok-frame.ensures.takes all s.given s.stands) in
    hearing_part g.T.Teller.Tells scene (later (length own) scene) c.args.from h rest all c.args.self.now c.next_frame.new.self c.hear_one.new.self c.loop-frame.desk c.hear_one.new.desk (with_piece c.loop-frame.framer c.loop-frame.piece.now) (with_piece c.next_frame.new.framer c.next_frame.new.piece.now) c.in-Some.frame _ c.from_residual-in_err-hear_one.result
    s took c.from_residual-in_err-hear_one.ensures.1 (c.in_err-hear_one.ensures (later s.events scene) s.h s.told.at s.quiet s.framed)

pub loop-frame-preserved : goal.loop-frame-preserved
loop-frame-preserved g c = record {
  hearing = λ scene h fed is quiet framed stands.
      let all = fed ++ c.args.bytes.now in
      let rest = drop (length (frames_of fed)) (frames_of all) in
      let s = hearing_still g.T.Teller.Tells scene c.args.from h rest all c.args.self.now c.loop-frame.self c.next_frame.new.self c.loop-frame.desk (with_piece c.loop-frame.framer c.loop-frame.piece.now) c.next_frame.ensures.on (c.loop-frame.invariant.hearing scene h fed is quiet framed stands) in
      let took = subst (λ (next : Option (List ℕ)). TookFrame next all s.given (with_piece c.next_frame.new.framer c.next_frame.new.piece.now)) c.in-Some.is (c.in_ok-frame.ensures.takes all s.given s.stands) in
      hearing_more g.T.Teller.Tells scene c.args.from h rest all c.args.self.now c.next_frame.new.self c.hear_one.new.self c.loop-frame.desk c.hear_one.new.desk (with_piece c.loop-frame.framer c.loop-frame.piece.now) (with_piece c.next_frame.new.framer c.next_frame.new.piece.now) c.in-Some.frame tt
      s took (c.in_ok-hear_one.ensures (later s.events scene) s.h s.told.at s.quiet s.framed);
}

pub returns : goal.returns
returns g c = λ scene h fed is quiet framed stands.
    let all = fed ++ c.args.bytes.now in
    let rest = drop (length (frames_of fed)) (frames_of all) in
    let s = hearing_still g.T.Teller.Tells scene c.args.from h rest all c.args.self.now c.loop-frame.self c.next_frame.new.self c.loop-frame.desk (with_piece c.loop-frame.framer c.loop-frame.piece.now) c.next_frame.ensures.on (c.loop-frame.invariant.hearing scene h fed is quiet framed stands) in
    let took = subst (λ (next : Option (List ℕ)). TookFrame next all s.given (with_piece c.next_frame.new.framer c.next_frame.new.piece.now)) c.in_default.is (c.in_ok-frame.ensures.takes all s.given s.stands) in
    let none : c.next_frame.new.piece.now ≡ [] = subst (λ (next : Option (List ℕ)). IfNone next (c.next_frame.new.piece.now ≡ [])) c.in_default.is c.in_ok-frame.ensures.all in
    let fed_all = nothing_behind c.next_frame.new.framer c.next_frame.new.piece.now none in
    hearing_all g.T.Teller.Tells scene c.args.from h rest all c.args.self.now c.next_frame.new.self c.loop-frame.desk (with_piece c.loop-frame.framer c.loop-frame.piece.now) c.next_frame.new.framer s
    (subst (λ (framer : Stream). TookFrame None all s.given framer) fed_all took)
