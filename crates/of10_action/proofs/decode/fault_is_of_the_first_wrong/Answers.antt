use Rattle.of10_action.proofs.Refused.{refused_iff}
use Rattle.of10_action.proofs.decode.fault_is_of_the_first_wrong.Goals as goal

pub returns : goal.returns
returns c = refused_iff
