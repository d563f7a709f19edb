use Rattle.test_desk_words.proofs.Shown.{flags_are_refused_shown, vendor_is_refused_shown, port_mod_is_refused_shown}
use Rattle.test_desk_words.proofs.message_is_refused.Goals as goal

pub returns-clause-flags : goal.returns-clause-flags
returns-clause-flags c = flags_are_refused_shown

pub returns-clause-vendor : goal.returns-clause-vendor
returns-clause-vendor c = vendor_is_refused_shown

pub returns-clause-ports : goal.returns-clause-ports
returns-clause-ports c = port_mod_is_refused_shown
