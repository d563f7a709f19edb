use Rattle.lane_laws.proofs.Ranged.{each_buffer}
use Rattle.promise.proofs.buffers_are_the_slices_own.Goals as goal

pub returns : goal.returns
returns c = each_buffer
