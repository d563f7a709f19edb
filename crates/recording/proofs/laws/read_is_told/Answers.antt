use Rattle.recording.proofs.Untold.{read_is_told}
use Rattle.recording.proofs.laws.read_is_told.Goals as goal

pub returns : goal.returns
returns c = read_is_told
