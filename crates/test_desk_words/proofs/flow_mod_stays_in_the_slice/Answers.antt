use Rattle.test_desk_words.proofs.Shown.{flow_mod_has_two_pieces_shown, flood_is_spread_shown, actions_are_held_to_the_slice_shown}
use Rattle.test_desk_words.proofs.flow_mod_stays_in_the_slice.Goals as goal

pub returns-clause-pieces : goal.returns-clause-pieces
returns-clause-pieces c = flow_mod_has_two_pieces_shown

pub returns-clause-flood : goal.returns-clause-flood
returns-clause-flood c = flood_is_spread_shown

pub returns-clause-actions : goal.returns-clause-actions
returns-clause-actions c = actions_are_held_to_the_slice_shown
