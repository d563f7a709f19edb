use Rattle.desk_words.proofs.Alone.{alike}
use Rattle.promise.proofs.two_worlds.Goals as goal

pub returns : goal.returns
returns c = alike
