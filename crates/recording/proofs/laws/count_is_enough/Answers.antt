use Rattle.std.proofs.Common.{length, arith}
use Rattle.recording.specs.declared.layout.Layout.TheVariants.{Recording}
use Rattle.recording.proofs.Walk.{same_count}
use Rattle.recording.proofs.laws.count_is_enough.Goals as goal

pub returns : goal.returns
returns c = λ n slices bytes before at h. same_count Recording n (length bytes) slices bytes before at h (omega arith)
