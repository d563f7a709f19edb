use Rattle.of10_action.proofs.Again.{actions_again}
use Rattle.of10_action.proofs.decode.spelling_is_read.Goals as goal

pub returns : goal.returns
returns c = actions_again
