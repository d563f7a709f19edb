use Rattle.of10_model.proofs.Membership.{has_iff_Has}
use Rattle.of10_model.proofs.laws.membership_is_decided.Goals as goal

pub returns : goal.returns
returns c = has_iff_Has
