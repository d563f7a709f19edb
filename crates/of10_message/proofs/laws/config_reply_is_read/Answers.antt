use Rattle.of10_message.proofs.SwitchTyped.{reply_read}
use Rattle.of10_message.proofs.laws.config_reply_is_read.Goals as goal

pub returns : goal.returns
returns c = reply_read
