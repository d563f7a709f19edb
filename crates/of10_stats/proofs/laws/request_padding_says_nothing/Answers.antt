use Rattle.of10_stats.proofs.Padding.{flow_alike, aggregate_alike, port_alike, queue_alike}
use Rattle.of10_stats.proofs.laws.request_padding_says_nothing.Goals as goal

pub returns-clause-flow : goal.returns-clause-flow
returns-clause-flow c = flow_alike

pub returns-clause-aggregate : goal.returns-clause-aggregate
returns-clause-aggregate c = aggregate_alike

pub returns-clause-port : goal.returns-clause-port
returns-clause-port c = port_alike

pub returns-clause-queue : goal.returns-clause-queue
returns-clause-queue c = queue_alike
