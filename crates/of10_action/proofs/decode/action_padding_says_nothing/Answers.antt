use Rattle.of10_action.proofs.Padding.{action_alike}
use Rattle.of10_action.proofs.decode.action_padding_says_nothing.Goals as goal

pub returns : goal.returns
returns c = action_alike
