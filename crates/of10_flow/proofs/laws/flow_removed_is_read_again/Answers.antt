use Rattle.of10_flow.proofs.Again.{flow_removed_of, flow_removed_again}
use Rattle.of10_flow.proofs.laws.flow_removed_is_read_again.Goals as goal

pub returns : goal.returns
returns c = λ m h. (flow_removed_of m h, flow_removed_again m h)
