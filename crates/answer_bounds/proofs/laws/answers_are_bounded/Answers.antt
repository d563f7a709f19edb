use Rattle.answer_bounds.proofs.Fitting.{answers_little}
use Rattle.answer_bounds.proofs.laws.answers_are_bounded.Goals as goal

pub returns : goal.returns
returns c = answers_little
