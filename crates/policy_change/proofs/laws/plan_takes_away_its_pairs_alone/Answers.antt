use Rattle.policy_change.proofs.Cleaned.{no_pair_left, treated_as_before}
use Rattle.policy_change.proofs.laws.plan_takes_away_its_pairs_alone.Goals as goal

pub returns : goal.returns
returns c = record { gone = no_pair_left; others = treated_as_before }
