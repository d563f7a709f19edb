use Rattle.outbox.proofs.Keeping.{push-kept, push-passing, push-choked}
use Rattle.outbox.proofs.laws.message_is_kept_within_the_limit.Goals as goal

pub returns : goal.returns
returns c = record { kept = push-kept; passing = push-passing; choked = push-choked }
