use Rattle.of10_message.proofs.ConfigReadAgain.{reply_again, reply_kind}
use Rattle.of10_message.proofs.laws.config_reply_is_read_again.Goals as goal

pub returns-clause-again : goal.returns-clause-again
returns-clause-again c = reply_again

pub returns-clause-kind : goal.returns-clause-kind
returns-clause-kind c = reply_kind
