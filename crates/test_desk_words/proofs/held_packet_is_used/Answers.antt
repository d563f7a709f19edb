use Rattle.test_desk_words.proofs.Shown.{reused_packet_is_lost_shown, packet_is_used_once_shown}
use Rattle.test_desk_words.proofs.held_packet_is_used.Goals as goal

pub returns-clause-lost : goal.returns-clause-lost
returns-clause-lost c = reused_packet_is_lost_shown

pub returns-clause-once : goal.returns-clause-once
returns-clause-once c = packet_is_used_once_shown
