use Rattle.lane_laws.proofs.Ranged.{each_outputs}
use Rattle.lane_laws.proofs.laws.outputs_name_the_slices_ports.Goals as goal

pub returns : goal.returns
returns c = each_outputs
