use Rattle.test_desk_words.proofs.Shown.{quota_holds_shown, overlap_is_refused_shown}
use Rattle.test_desk_words.proofs.booked_pairs_refuse.Goals as goal

pub returns-clause-quota : goal.returns-clause-quota
returns-clause-quota c = quota_holds_shown

pub returns-clause-overlap : goal.returns-clause-overlap
returns-clause-overlap c = overlap_is_refused_shown
