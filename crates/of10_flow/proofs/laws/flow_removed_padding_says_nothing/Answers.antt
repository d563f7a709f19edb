use Rattle.of10_flow.proofs.Padding.{flow_removed_alike_reason, flow_removed_alike_idle}
use Rattle.of10_flow.proofs.laws.flow_removed_padding_says_nothing.Goals as goal

pub returns-clause-reason : goal.returns-clause-reason
returns-clause-reason c = flow_removed_alike_reason

pub returns-clause-idle : goal.returns-clause-idle
returns-clause-idle c = flow_removed_alike_idle
