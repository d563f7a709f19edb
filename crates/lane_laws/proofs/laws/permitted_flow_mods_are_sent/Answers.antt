use Rattle.lane_laws.proofs.Sent.{lane_whole, pieces_are, actions_are, lane_or_none}
use Rattle.lane_laws.proofs.laws.permitted_flow_mods_are_sent.Goals as goal

pub returns : goal.returns
returns c = record { sent = lane_whole; pieces = pieces_are; actions = actions_are; nothing_else = lane_or_none }
