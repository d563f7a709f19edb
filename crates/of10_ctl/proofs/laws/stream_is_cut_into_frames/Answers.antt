use Rattle.of10_ctl.proofs.Whole.{frames-whole_all}
use Rattle.of10_ctl.proofs.laws.stream_is_cut_into_frames.Goals as goal

pub returns : goal.returns
returns c = frames-whole_all
