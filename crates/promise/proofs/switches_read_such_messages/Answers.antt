use Rattle.lane_laws.proofs.Whole.{each_read}
use Rattle.promise.proofs.switches_read_such_messages.Goals as goal

pub returns : goal.returns
returns c = each_read
