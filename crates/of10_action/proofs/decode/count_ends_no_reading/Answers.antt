use Rattle.of10_action.proofs.Lengths.{any_count}
use Rattle.of10_action.proofs.decode.count_ends_no_reading.Goals as goal

pub returns : goal.returns
returns c = any_count
