use Rattle.test_desk_words.proofs.Shown.{features_are_told_shown, config_is_kept_shown, echo_is_answered_shown}
use Rattle.test_desk_words.proofs.message_is_answered.Goals as goal

pub returns-clause-features : goal.returns-clause-features
returns-clause-features c = features_are_told_shown

pub returns-clause-config : goal.returns-clause-config
returns-clause-config c = config_is_kept_shown

pub returns-clause-echo : goal.returns-clause-echo
returns-clause-echo c = echo_is_answered_shown
