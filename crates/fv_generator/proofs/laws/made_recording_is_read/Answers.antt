use Rattle.fv_generator.specs.Policies.{the_policy}
use Rattle.fv_generator.proofs.Accepted.{recording_is_read}
use Rattle.fv_generator.proofs.laws.made_recording_is_read.Goals as goal

pub returns : goal.returns
unfolding the_policy
returns c = recording_is_read
