use Rattle.port_turns.proofs.ReadTurned.{turn_in_size, turn_in_head}
use Rattle.port_turns.proofs.StayBytes.{turn_in_bytes}
use Rattle.port_turns.proofs.laws.turned_message_keeps_its_head.Goals as goal

pub returns : goal.returns
returns c = record {
  size = turn_in_size;
  head = turn_in_head;
  range = turn_in_bytes;
}
