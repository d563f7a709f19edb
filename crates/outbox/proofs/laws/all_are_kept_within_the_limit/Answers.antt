use Rattle.outbox.proofs.Keeping.{push_all-kept}
use Rattle.outbox.proofs.laws.all_are_kept_within_the_limit.Goals as goal

pub returns : goal.returns
returns c = push_all-kept
