use Rattle.policy_text.proofs.LeastUnknown.{all_known, least_is_named}
use Rattle.policy_laws.proofs.laws.named_key_is_the_least_unknown.Goals as goal

pub returns : goal.returns
returns c = record {
  known = λ kind this. all_known kind this;
  unknown = λ kind this key. least_is_named kind this key;
}
