use Rattle.desk_words.specs.Operations.{lane_limit, lane_of}
use Rattle.proxy_core.proofs.desk.Desk.lane_bytes.Goals as goal

pub returns : goal.returns
returns c = λ policy operations stands. c.bytes.ensures lane_limit (lane_of policy operations) stands.body.lane
