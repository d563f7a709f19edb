use Rattle.of10_model.proofs.Inhabited.{has_header}
use Rattle.of10_model.proofs.laws.normal_match_has_header.Goals as goal

pub returns : goal.returns
returns c = λ m n. has_header m n.0
