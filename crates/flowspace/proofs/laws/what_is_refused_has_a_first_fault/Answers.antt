use Rattle.flowspace.proofs.Faulty.{IsFirstFault-load_of}
use Rattle.flowspace.proofs.laws.what_is_refused_has_a_first_fault.Goals as goal

pub returns : goal.returns
returns c = λ slices rules fault normal e. IsFirstFault-load_of slices rules fault normal e
