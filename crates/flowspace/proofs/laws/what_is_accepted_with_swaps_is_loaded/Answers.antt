use Rattle.flowspace.proofs.FirstSwaps.{load_ports_of-iff}
use Rattle.flowspace.proofs.laws.what_is_accepted_with_swaps_is_loaded.Goals as goal

pub returns : goal.returns
returns c = load_ports_of-iff
