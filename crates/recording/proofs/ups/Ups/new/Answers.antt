use Rattle.recording.proofs.Noting.{nobody_is_up}
use Rattle.recording.proofs.ups.Ups.new.Goals as goal

pub returns : goal.returns
returns c = nobody_is_up c.no_slices.result c.no_slices.ensures
