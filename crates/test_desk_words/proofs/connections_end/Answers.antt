use Rattle.test_desk_words.proofs.Shown.{nothing_happens_shown, switch_goes_shown, bad_length_ends_the_switch_shown, early_slice_is_refused_shown}
use Rattle.test_desk_words.proofs.connections_end.Goals as goal

pub returns-clause-nothing : goal.returns-clause-nothing
returns-clause-nothing c = nothing_happens_shown

pub returns-clause-down : goal.returns-clause-down
returns-clause-down c = switch_goes_shown

pub returns-clause-length : goal.returns-clause-length
returns-clause-length c = bad_length_ends_the_switch_shown

pub returns-clause-early : goal.returns-clause-early
returns-clause-early c = early_slice_is_refused_shown
