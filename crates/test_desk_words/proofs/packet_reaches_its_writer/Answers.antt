use Rattle.test_desk_words.proofs.Shown.{packet_reaches_shown, packet_passes_shown}
use Rattle.test_desk_words.proofs.packet_reaches_its_writer.Goals as goal

pub returns-clause-alice : goal.returns-clause-alice
returns-clause-alice c = packet_reaches_shown

pub returns-clause-nobody : goal.returns-clause-nobody
returns-clause-nobody c = packet_passes_shown
