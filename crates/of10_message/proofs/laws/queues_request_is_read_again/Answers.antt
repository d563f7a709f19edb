use Rattle.of10_message.proofs.ConfigReadAgain.{question_again, question_kind}
use Rattle.of10_message.proofs.laws.queues_request_is_read_again.Goals as goal

pub returns-clause-again : goal.returns-clause-again
returns-clause-again c = question_again

pub returns-clause-kind : goal.returns-clause-kind
returns-clause-kind c = λ xid question is. question_kind xid question is.padding
