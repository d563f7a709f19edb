use Rattle.policy_laws.proofs.Names.{slots_are, missing_name, repeated_name}
use Rattle.policy_laws.proofs.laws.names_are_of_slices.Goals as goal

pub returns : goal.returns
returns c = record {
  slots = λ slices index names slots. slots_are slices index names slots;
  missing = λ slices index said. missing_name slices index said;
  repeated = λ slices index said. repeated_name slices index said;
}
