use Rattle.of10_message.proofs.ControllerTyped.{question_read}
use Rattle.of10_message.proofs.laws.queues_request_is_read.Goals as goal

pub returns : goal.returns
returns c = question_read
