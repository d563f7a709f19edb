use Rattle.lane_laws.proofs.Sent.{held_are_written}
use Rattle.lane_laws.proofs.Ranged.{each_buffer}
use Rattle.lane_laws.proofs.laws.buffers_are_the_slices_own.Goals as goal

pub returns : goal.returns
returns c = record { messages = each_buffer; held = held_are_written }
