use Rattle.desk_words.proofs.Seen.{seen, in_order}
use Rattle.desk_words.proofs.laws.slice_sees_its_switch.Goals as goal

pub returns-clause-seen : goal.returns-clause-seen
returns-clause-seen c = seen

pub returns-clause-order : goal.returns-clause-order
returns-clause-order c = in_order
