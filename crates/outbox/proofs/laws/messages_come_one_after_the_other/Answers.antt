use Rattle.outbox.proofs.Keeping.{push_all-none, push_all-one, push_all-append}
use Rattle.outbox.proofs.laws.messages_come_one_after_the_other.Goals as goal

pub returns : goal.returns
returns c = record { none = push_all-none; one = push_all-one; more = push_all-append }
