use Rattle.of10_model.proofs.Padding.{alike_priority, alike_protocol}
use Rattle.of10_model.proofs.laws.match_padding_says_nothing.Goals as goal

pub returns-clause-priority : goal.returns-clause-priority
returns-clause-priority c = alike_priority

pub returns-clause-protocol : goal.returns-clause-protocol
returns-clause-protocol c = alike_protocol
