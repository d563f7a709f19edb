use Rattle.test_desk_words.proofs.Shown.{packet_out_is_held_to_the_slice_shown, probe_comes_back_shown}
use Rattle.test_desk_words.proofs.packet_out_is_sent_on.Goals as goal

pub returns-clause-packet : goal.returns-clause-packet
returns-clause-packet c = packet_out_is_held_to_the_slice_shown

pub returns-clause-probe : goal.returns-clause-probe
returns-clause-probe c = probe_comes_back_shown
