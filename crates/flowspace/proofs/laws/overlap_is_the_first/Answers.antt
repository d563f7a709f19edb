use Rattle.flowspace.proofs.Overlapping.{IsFirstOverlap-load_of}
use Rattle.flowspace.proofs.laws.overlap_is_the_first.Goals as goal

pub returns : goal.returns
returns c = λ slices rules i j normal e. IsFirstOverlap-load_of slices rules i j normal e
