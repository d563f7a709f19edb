use Rattle.test_desk_words.proofs.Shown.{status_reaches_bob_shown, own_ports_are_told_shown, other_port_is_refused_shown}
use Rattle.test_desk_words.proofs.slice_is_told_its_ports.Goals as goal

pub returns-clause-status : goal.returns-clause-status
returns-clause-status c = status_reaches_bob_shown

pub returns-clause-features : goal.returns-clause-features
returns-clause-features c = own_ports_are_told_shown

pub returns-clause-output : goal.returns-clause-output
returns-clause-output c = other_port_is_refused_shown
