use Rattle.desk_words.proofs.Alone.{blind}
use Rattle.desk_words.proofs.laws.blind_before_the_opening.Goals as goal

pub returns : goal.returns
returns c = blind
