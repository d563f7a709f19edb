use Rattle.test_desk_words.proofs.Shown.{first_world_shown, other_world_shown, same_settings_shown, sees_the_same_shown, sent_the_same_shown}
use Rattle.test_desk_words.proofs.worlds_alike_for_a_slice.Goals as goal

pub returns-clause-first : goal.returns-clause-first
returns-clause-first c = first_world_shown

pub returns-clause-other : goal.returns-clause-other
returns-clause-other c = other_world_shown

pub returns-clause-settings : goal.returns-clause-settings
returns-clause-settings c = same_settings_shown

pub returns-clause-view : goal.returns-clause-view
returns-clause-view c = sees_the_same_shown

pub returns-clause-sent : goal.returns-clause-sent
returns-clause-sent c = sent_the_same_shown
