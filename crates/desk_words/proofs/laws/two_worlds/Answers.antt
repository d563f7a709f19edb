use Rattle.desk_words.proofs.Alone.{alike}
use Rattle.desk_words.proofs.laws.two_worlds.Goals as goal

pub returns : goal.returns
returns c = alike
