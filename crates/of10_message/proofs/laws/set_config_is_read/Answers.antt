use Rattle.of10_message.proofs.ControllerTyped.{set_read}
use Rattle.of10_message.proofs.laws.set_config_is_read.Goals as goal

pub returns : goal.returns
returns c = set_read
