use Rattle.desk_words.proofs.Phases.{by_events}
use Rattle.desk_words.proofs.laws.phase_by_events.Goals as goal

pub returns : goal.returns
returns c = by_events
