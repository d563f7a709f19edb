-- What was seen of a file behind calls that left it and its count.
use Rattle.std.proofs.Common.{ℕ, ◌≡◌, List, subst, Option}
use Rattle.flowspace.specs.Policies.{PolicyView}
use Rattle.fv_cli.specs.declared.ending.Ending.{Ending}
use Rattle.fv_cli.specs.Endings.{HasPolicy, IsPolicyCause}

pub policy_cause_before : (file file' : Option (List ℕ)) (before before' after : ℕ) (ending : Ending) → file' ≡ file → before' ≡ before → IsPolicyCause file' before' after ending → IsPolicyCause file before after ending
policy_cause_before file file' before before' after ending same calm cause =
    subst (λ (f : Option (List ℕ)). IsPolicyCause f before after ending) same (subst (λ (n : ℕ). IsPolicyCause file' n after ending) calm cause)

pub has_policy_before : (p : PolicyView) (file file' : Option (List ℕ)) → file' ≡ file → HasPolicy p file' → HasPolicy p file
has_policy_before p file file' same has = subst (λ (f : Option (List ℕ)). HasPolicy p f) same has
