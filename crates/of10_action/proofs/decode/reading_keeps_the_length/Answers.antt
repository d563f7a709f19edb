use Rattle.of10_action.proofs.Lengths.{spelled_length}
use Rattle.of10_action.proofs.decode.reading_keeps_the_length.Goals as goal

pub returns : goal.returns
returns c = spelled_length
