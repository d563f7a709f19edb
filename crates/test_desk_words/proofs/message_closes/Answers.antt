use Rattle.test_desk_words.proofs.Shown.{bad_length_closes_shown, old_version_closes_shown}
use Rattle.test_desk_words.proofs.message_closes.Goals as goal

pub returns-clause-length : goal.returns-clause-length
returns-clause-length c = bad_length_closes_shown

pub returns-clause-version : goal.returns-clause-version
returns-clause-version c = old_version_closes_shown
