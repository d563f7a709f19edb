use Rattle.answer_bounds.proofs.Fitting.{answers_fit}
use Rattle.answer_bounds.proofs.laws.answers_fit.Goals as goal

pub returns : goal.returns
returns c = answers_fit
