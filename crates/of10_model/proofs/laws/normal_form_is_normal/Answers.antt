use Rattle.of10_model.proofs.Applied.{IsNormal-Norm}
use Rattle.of10_model.proofs.laws.normal_form_is_normal.Goals as goal

pub returns : goal.returns
returns c = IsNormal-Norm
