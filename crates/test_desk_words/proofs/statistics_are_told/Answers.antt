use Rattle.test_desk_words.proofs.Shown.{own_flows_are_told_shown, flows_are_summed_shown, table_is_told_shown}
use Rattle.test_desk_words.proofs.statistics_are_told.Goals as goal

pub returns-clause-flows : goal.returns-clause-flows
returns-clause-flows c = own_flows_are_told_shown

pub returns-clause-sum : goal.returns-clause-sum
returns-clause-sum c = flows_are_summed_shown

pub returns-clause-table : goal.returns-clause-table
returns-clause-table c = table_is_told_shown
