use Rattle.trace_audit.proofs.Sent.{message_passed}
use Rattle.trace_audit.proofs.laws.passed_messages_keep_their_slice.Goals as goal

pub returns : goal.returns
returns c = λ policy accepted h slot message frame none. message_passed policy accepted h slot message frame none
