use Rattle.flowspace.proofs.Accepting.{load_of-iff}
use Rattle.flowspace.proofs.laws.what_is_accepted_is_loaded.Goals as goal

pub returns : goal.returns
returns c = λ slices rules some plain_slices plain_rules normal. load_of-iff slices rules some plain_slices plain_rules normal
