use Rattle.xid_map.proofs.Gathering.{IsLongestRun-kept}
use Rattle.xid_map.proofs.laws.kept_is_the_longest_run.Goals as goal

pub returns : goal.returns
returns c = IsLongestRun-kept
