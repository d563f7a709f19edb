use Rattle.of10_ctl.proofs.Cutting.{frames-short, frames-bad, frames-cut_off, frames-whole}
use Rattle.of10_ctl.proofs.laws.stream_is_cut_frame_by_frame.Goals as goal

pub returns-clause-short : goal.returns-clause-short
returns-clause-short c = frames-short

pub returns-clause-bad : goal.returns-clause-bad
returns-clause-bad c = frames-bad

pub returns-clause-cut_off : goal.returns-clause-cut_off
returns-clause-cut_off c = frames-cut_off

pub returns-clause-whole : goal.returns-clause-whole
returns-clause-whole c = frames-whole
