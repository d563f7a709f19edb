use Rattle.desk_words.proofs.Completed.{completed_once}
use Rattle.desk_words.proofs.laws.frames_are_completed_once.Goals as goal

pub returns : goal.returns
returns c = completed_once
