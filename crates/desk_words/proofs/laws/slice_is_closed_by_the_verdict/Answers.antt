use Rattle.desk_words.proofs.Closing.{closed_by_verdict}
use Rattle.desk_words.proofs.laws.slice_is_closed_by_the_verdict.Goals as goal

pub returns : goal.returns
returns c = closed_by_verdict
