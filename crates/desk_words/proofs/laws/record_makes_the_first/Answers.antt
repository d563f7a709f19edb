use Rattle.desk_words.proofs.Making.{makes_the_first}
use Rattle.desk_words.proofs.laws.record_makes_the_first.Goals as goal

pub returns : goal.returns
returns c = makes_the_first
