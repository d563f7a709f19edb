use Rattle.fv_generator.proofs.Accepted.{recording_size}
use Rattle.fv_generator.proofs.laws.made_recording_is_small.Goals as goal

pub returns : goal.returns
returns c = recording_size
