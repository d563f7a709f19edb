use Rattle.slice_words.proofs.Joining.{joined}
use Rattle.slice_words.proofs.laws.answers_are_joined.Goals as goal

pub returns : goal.returns
returns c = joined
