use Rattle.desk_words.proofs.Ups.{up_by_events}
use Rattle.desk_words.proofs.laws.up_by_events.Goals as goal

pub returns : goal.returns
returns c = up_by_events
