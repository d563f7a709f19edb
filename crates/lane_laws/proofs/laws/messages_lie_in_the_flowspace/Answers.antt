use Rattle.lane_laws.proofs.Ranged.{each_lies}
use Rattle.lane_laws.proofs.laws.messages_lie_in_the_flowspace.Goals as goal

pub returns : goal.returns
returns c = each_lies
