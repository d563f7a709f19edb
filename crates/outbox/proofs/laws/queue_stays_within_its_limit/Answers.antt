use Rattle.outbox.proofs.Keeping.{push_all-within, push_all-choked}
use Rattle.outbox.proofs.laws.queue_stays_within_its_limit.Goals as goal

pub returns : goal.returns
returns c = record { within = push_all-within; choked = push_all-choked }
