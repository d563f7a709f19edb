use Rattle.event_player.proofs.Players.{told_coming}
use Rattle.event_player.proofs.player.Player.announce.Goals as goal

pub returns : goal.returns
returns g c = λ scene h is quiet framed one.
    told_coming g.T.Teller.Tells scene h c.args.event.now c.come.result c.args.self.now _ is (c.come.ensures scene.policy h quiet framed one) (record { policy = is.policy; place = is.place; moment = is.moment })
