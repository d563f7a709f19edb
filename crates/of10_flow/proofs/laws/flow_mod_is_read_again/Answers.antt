use Rattle.of10_flow.proofs.Again.{flow_mod_of, flow_mod_again}
use Rattle.of10_flow.proofs.laws.flow_mod_is_read_again.Goals as goal

pub returns : goal.returns
returns c = λ m h. (flow_mod_of m h, flow_mod_again m h)
