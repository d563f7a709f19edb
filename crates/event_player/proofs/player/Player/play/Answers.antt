use Rattle.event_player.proofs.Playing.{played_one, failed_one}
use Rattle.event_player.proofs.player.Player.play.Goals as goal

pub returns-in_err-turn : goal.returns-in_err-turn
returns-in_err-turn g c = λ scene h is quiet framed one happens.
    failed_one g.T.Teller.Tells scene h c.args.event _ c.from_residual.result c.args.self.now c.turn.new.self c.turn.new.desk happens c.from_residual.ensures.1 (c.in_err-turn.ensures scene h is quiet framed one)

pub returns : goal.returns
returns g c = λ scene h is quiet framed one happens.
    let turned = c.in_ok-turn.ensures scene h is quiet framed one in
    played_one g.T.Teller.Tells scene h c.args.event tt c.count.result c.args.self.now c.turn.new.self c.count.new.self c.turn.new.desk happens framed one turned (c.count.ensures.told scene turned.at)
