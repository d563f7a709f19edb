use Rattle.lane_laws.proofs.Sent.{lane_whole}
use Rattle.promise.proofs.permitted_flow_mods_are_sent.Goals as goal

pub returns : goal.returns
returns c = lane_whole
