use Rattle.event_player.proofs.Holding.{up_told}
use Rattle.event_player.proofs.event_lines.is_up.Goals as goal

pub returns : goal.returns
returns c = λ p h quiet. up_told p h c.args.slot c.args.desk.now c.is_up.result c.is_up.ensures quiet
