use Rattle.slice_words.proofs.Joining.{silent}
use Rattle.slice_words.proofs.laws.silent_while_down.Goals as goal

pub returns : goal.returns
returns c = silent
