use Rattle.stats_filter.proofs.Questions.{question_again}
use Rattle.stats_filter.proofs.laws.question_is_read_again.Goals as goal

pub returns : goal.returns
returns c = question_again
