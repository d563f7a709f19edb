use Rattle.desk_words.proofs.Telling.{known_as_told}
use Rattle.desk_words.proofs.laws.ports_are_known_as_told.Goals as goal

pub returns : goal.returns
returns c = known_as_told
