use Rattle.port_turns.proofs.SentHeads.{out_head}
use Rattle.port_turns.proofs.laws.sent_message_keeps_its_head.Goals as goal

pub returns : goal.returns
returns c = out_head
