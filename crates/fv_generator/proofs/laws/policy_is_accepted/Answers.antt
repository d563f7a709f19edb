use Rattle.fv_generator.proofs.Loaded.{policy_is_loaded, policy_is_one}
use Rattle.fv_generator.proofs.laws.policy_is_accepted.Goals as goal

pub returns-clause-policy : goal.returns-clause-policy
returns-clause-policy c = policy_is_one

pub returns-clause-loaded : goal.returns-clause-loaded
returns-clause-loaded c = policy_is_loaded
