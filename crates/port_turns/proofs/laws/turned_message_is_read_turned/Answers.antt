use Rattle.port_turns.proofs.Same.{read_turned_is, turn_in_none}
use Rattle.port_turns.proofs.laws.turned_message_is_read_turned.Goals as goal

pub returns : goal.returns
returns c = record { turned = read_turned_is; none = turn_in_none }
