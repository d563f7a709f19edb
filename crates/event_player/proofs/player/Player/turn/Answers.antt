use Rattle.std.proofs.Common.{[], ◌∷◌, map}
use Rattle.desk_words.specs.Recorded.{timed_at}
use Rattle.desk_words.specs.Reports.{event_lines}
use Rattle.event_player.specs.Telling.{Says, coming}
use Rattle.event_player.proofs.Players.{told_first, told_second}
use Rattle.event_player.proofs.Cues.{told_said}
use Rattle.event_player.proofs.player.Player.turn.Goals as goal

pub returns-in_err-announce : goal.returns-in_err-announce
returns-in_err-announce g c = λ scene h is quiet framed one.
    let timed = timed_at scene.moment c.args.event in
    told_first g.T.Teller.Tells scene scene _ c.from_residual.result (coming scene.policy scene.place h timed ∷ []) (map Says (event_lines scene.policy scene.place h timed)) c.args.self.now c.announce.new.self c.from_residual.ensures.1 (c.in_err-announce.ensures scene h is quiet framed one)

pub returns : goal.returns
returns g c = λ scene h is quiet framed one.
    let timed = timed_at scene.moment c.args.event in
    let lines = event_lines scene.policy scene.place h timed in
    let come = c.in_ok-announce.ensures scene h is quiet framed one in
    told_second g.T.Teller.Tells scene scene tt c.take_in.result (coming scene.policy scene.place h timed ∷ []) (map Says lines) c.args.self.now c.announce.new.self c.take_in.new.self come
    (told_said g.T.Teller.Tells scene c.take_in.result lines c.announce.new.self c.take_in.new.self (c.take_in.ensures scene h come.at quiet framed one))
