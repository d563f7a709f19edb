use Rattle.recording.proofs.Refused.{refused_iff}
use Rattle.recording.proofs.laws.fault_is_the_first.Goals as goal

pub returns : goal.returns
returns c = refused_iff
