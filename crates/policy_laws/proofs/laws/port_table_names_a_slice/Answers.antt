use Rattle.policy_laws.proofs.Ports.{swap_is, refused_is}
use Rattle.policy_laws.proofs.laws.port_table_names_a_slice.Goals as goal

pub returns : goal.returns
returns c = record {
  read = λ slices index said swap. swap_is slices index said swap;
  missing = λ slices index said fault. refused_is slices index said fault;
}
