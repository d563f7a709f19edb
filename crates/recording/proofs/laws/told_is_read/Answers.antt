use Rattle.recording.proofs.Told.{told_again}
use Rattle.recording.proofs.laws.told_is_read.Goals as goal

pub returns : goal.returns
returns c = told_again
