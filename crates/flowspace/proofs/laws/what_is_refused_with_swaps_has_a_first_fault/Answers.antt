use Rattle.flowspace.proofs.FirstSwaps.{first_with_swaps}
use Rattle.flowspace.proofs.laws.what_is_refused_with_swaps_has_a_first_fault.Goals as goal

pub returns : goal.returns
returns c = first_with_swaps
