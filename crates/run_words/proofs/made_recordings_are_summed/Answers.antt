use Rattle.run_words.proofs.Shown.{no_round_shown, one_round_shown}
use Rattle.run_words.proofs.made_recordings_are_summed.Goals as goal

pub returns-clause-no_round : goal.returns-clause-no_round
returns-clause-no_round c = no_round_shown

pub returns-clause-one_round : goal.returns-clause-one_round
returns-clause-one_round c = one_round_shown
