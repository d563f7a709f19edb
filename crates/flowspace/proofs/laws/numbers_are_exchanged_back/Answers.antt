use Rattle.flowspace.proofs.Exchanging.{exchanged_back}
use Rattle.flowspace.proofs.laws.numbers_are_exchanged_back.Goals as goal

pub returns : goal.returns
returns c = exchanged_back
