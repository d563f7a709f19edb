use Rattle.slice_words.proofs.Joining.{last_up}
use Rattle.slice_words.proofs.laws.up_by_the_last.Goals as goal

pub returns : goal.returns
returns c = last_up
