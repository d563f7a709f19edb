use Rattle.of10_model.proofs.Same.{is_same_iff}
use Rattle.of10_model.proofs.laws.sameness_is_decided.Goals as goal

pub returns : goal.returns
returns c = is_same_iff
