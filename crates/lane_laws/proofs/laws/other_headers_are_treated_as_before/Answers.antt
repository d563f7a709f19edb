use Rattle.lane_laws.proofs.Ranged.{each_leaves}
use Rattle.lane_laws.proofs.laws.other_headers_are_treated_as_before.Goals as goal

pub returns : goal.returns
returns c = each_leaves
