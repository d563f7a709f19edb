use Rattle.event_player.specs.Telling.{says}
use Rattle.event_player.specs.Lines.{place_of, saying_of}
use Rattle.event_player.proofs.Players.{told_line}
use Rattle.event_player.proofs.player.Player.say.Goals as goal

pub returns : goal.returns
returns g c = λ scene is.
    told_line (says g.T.Teller.Tells) scene (place_of c.args.self.now.place) (saying_of c.args.said) c.tell.result c.args.self.now _ is.place c.tell.ensures (record { policy = is.policy; place = is.place; moment = is.moment })
