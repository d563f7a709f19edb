use Rattle.port_turns.proofs.SentLengths.{numbers_length}
use Rattle.port_turns.proofs.laws.sent_message_keeps_its_length.Goals as goal

pub returns : goal.returns
returns c = numbers_length
