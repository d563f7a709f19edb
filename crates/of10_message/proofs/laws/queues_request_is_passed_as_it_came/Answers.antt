use Rattle.of10_message.proofs.ConfigReadAgain.{question_passed}
use Rattle.of10_message.proofs.laws.queues_request_is_passed_as_it_came.Goals as goal

pub returns : goal.returns
returns c = question_passed
