use Rattle.std.proofs.Common.{[]}
use Rattle.desk_words.specs.Recorded.{told_by, history_at}
use Rattle.event_player.specs.Players.{scene_of}
use Rattle.event_player.proofs.Recorded.{one_played, played_so, switch_after}
use Rattle.event_player.proofs.player.Player.connection_turns.Goals as goal

pub returns : goal.returns
returns g c = λ p number before is found.
    let r = told_by c.args.item.now [] in
    let h = history_at p r before in
    let ready = c.ready.ensures p before found in
    let plays = c.play.ensures (scene_of p number r) h is ready.quiet ready.framed c.event_of.ensures.framed (c.event_of.ensures.happens p h) in
    played_so g.T.Teller.Tells p number r before c.play.result c.args.self.now c.play.new.self (λ rests. switch_after p r before _ rests ready.streams)
    (one_played g.T.Teller.Tells p number r before c.event_of.result c.play.result c.args.self.now c.play.new.self c.play.new.desk (c.event_of.ensures.one before) plays)
