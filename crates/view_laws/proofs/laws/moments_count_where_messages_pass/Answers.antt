use Rattle.view_laws.proofs.Counting.{accepted-counted, keeps-conforms}
use Rattle.view_laws.proofs.laws.moments_count_where_messages_pass.Goals as goal

pub returns-clause-count : goal.returns-clause-count
returns-clause-count c s view = accepted-counted s view

pub returns-clause-keeps : goal.returns-clause-keeps
returns-clause-keeps c s view message moment = keeps-conforms s view message moment
