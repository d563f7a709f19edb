use Rattle.of10_message.proofs.ConfigReadAgain.{set_again, set_kind}
use Rattle.of10_message.proofs.laws.set_config_is_read_again.Goals as goal

pub returns-clause-again : goal.returns-clause-again
returns-clause-again c = set_again

pub returns-clause-kind : goal.returns-clause-kind
returns-clause-kind c = set_kind
