use Rattle.policy_laws.proofs.Firsts.{swaps_read, swaps_refused}
use Rattle.policy_laws.proofs.laws.refused_swap_is_the_first.Goals as goal

pub returns : goal.returns
returns c = record {
  read = λ slices items swaps. swaps_read slices items swaps;
  refused = λ slices items fault. swaps_refused slices items fault;
}
