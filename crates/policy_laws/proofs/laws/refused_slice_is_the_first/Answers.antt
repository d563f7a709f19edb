use Rattle.policy_laws.proofs.Firsts.{slices_read, slices_refused}
use Rattle.policy_laws.proofs.laws.refused_slice_is_the_first.Goals as goal

pub returns : goal.returns
returns c = record {
  read = λ items slices. slices_read items slices;
  refused = λ items fault. slices_refused items fault;
}
