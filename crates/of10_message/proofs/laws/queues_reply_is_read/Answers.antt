use Rattle.of10_message.proofs.SwitchTyped.{queues_read}
use Rattle.of10_message.proofs.laws.queues_reply_is_read.Goals as goal

pub returns : goal.returns
returns c = queues_read
