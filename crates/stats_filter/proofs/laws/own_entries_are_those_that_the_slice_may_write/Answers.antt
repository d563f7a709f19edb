use Rattle.stats_filter.proofs.Own.{own_flow, own_port, own_queue, own_description}
use Rattle.stats_filter.proofs.laws.own_entries_are_those_that_the_slice_may_write.Goals as goal

pub returns-clause-flows : goal.returns-clause-flows
returns-clause-flows c = own_flow

pub returns-clause-ports : goal.returns-clause-ports
returns-clause-ports c = own_port

pub returns-clause-queues : goal.returns-clause-queues
returns-clause-queues c = own_queue

pub returns-clause-switch : goal.returns-clause-switch
returns-clause-switch c = own_description
