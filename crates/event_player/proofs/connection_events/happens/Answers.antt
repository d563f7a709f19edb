use Rattle.std.proofs.Common.{not, ap, ◌∙◌, sym}
use Rattle.desk_words.specs.declared.dest.Dest.{Dest}
use Rattle.event_player.specs.Plays.{event_from}
use Rattle.event_player.proofs.connection_events.happens.Goals as goal
use Rattle.desk_words.specs.Recorded.{happens}

pub returns-in-Switch : goal.returns-in-Switch
returns-in-Switch c = λ p h message quiet. ap not (c.has_ended.ensures p h quiet) ∙ ap (λ (from : Dest). happens p h (event_from from message)) (sym c.in-Switch.is)
