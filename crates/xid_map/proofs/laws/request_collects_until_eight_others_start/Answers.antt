use Rattle.xid_map.proofs.Collecting.{collecting-IsStarted}
use Rattle.xid_map.proofs.laws.request_collects_until_eight_others_start.Goals as goal

pub returns : goal.returns
returns c = collecting-IsStarted
