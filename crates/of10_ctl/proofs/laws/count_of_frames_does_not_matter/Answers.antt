use Rattle.std.proofs.Common.{length, arith}
use Rattle.of10_ctl.specs.Streams.{frames_of}
use Rattle.of10_ctl.proofs.Cutting.{same_count}
use Rattle.of10_ctl.proofs.laws.count_of_frames_does_not_matter.Goals as goal

pub returns : goal.returns
unfolding frames_of
returns c = λ n bytes enough. same_count n (length bytes) bytes enough (omega arith)
