use Rattle.desk_words.proofs.Silence.{after_down, until_up}
use Rattle.desk_words.proofs.laws.silent_until_up.Goals as goal

pub returns-clause-down : goal.returns-clause-down
returns-clause-down c = after_down

pub returns-clause-silent : goal.returns-clause-silent
returns-clause-silent c = until_up
