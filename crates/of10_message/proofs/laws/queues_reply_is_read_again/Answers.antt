use Rattle.of10_message.proofs.ConfigReadAgain.{queues_again, queues_kind}
use Rattle.of10_message.proofs.laws.queues_reply_is_read_again.Goals as goal

pub returns-clause-again : goal.returns-clause-again
returns-clause-again c = queues_again

pub returns-clause-kind : goal.returns-clause-kind
returns-clause-kind c = queues_kind
