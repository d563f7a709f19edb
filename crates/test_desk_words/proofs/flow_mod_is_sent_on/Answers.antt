use Rattle.test_desk_words.proofs.Shown.{flow_mod_is_cut_shown, flow_mod_is_refused_shown, error_is_told_once_shown}
use Rattle.test_desk_words.proofs.flow_mod_is_sent_on.Goals as goal

pub returns-clause-cut : goal.returns-clause-cut
returns-clause-cut c = flow_mod_is_cut_shown

pub returns-clause-refused : goal.returns-clause-refused
returns-clause-refused c = flow_mod_is_refused_shown

pub returns-clause-error : goal.returns-clause-error
returns-clause-error c = error_is_told_once_shown
