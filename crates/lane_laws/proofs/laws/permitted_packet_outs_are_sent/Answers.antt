use Rattle.lane_laws.proofs.Sent.{out_lane_whole, out_actions_are}
use Rattle.lane_laws.proofs.laws.permitted_packet_outs_are_sent.Goals as goal

pub returns : goal.returns
returns c = record { sent = out_lane_whole; actions = out_actions_are }
