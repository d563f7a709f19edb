use Rattle.flowmod_expand.proofs.Again.{read_there}
use Rattle.flowmod_expand.proofs.laws.message_is_read_again.Goals as goal

pub returns : goal.returns
returns c = record {
  kind = λ o paired range small at. (read_there o paired range small at).0;
  again = λ o paired range small at. (read_there o paired range small at).1;
}
