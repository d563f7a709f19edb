use Rattle.policy_laws.proofs.Readers.{bits_are, bits_below_limit, readers_named}
use Rattle.policy_laws.proofs.laws.readers_are_the_named_slots.Goals as goal

pub returns : goal.returns
returns c = record {
  bits = λ slots k lt. bits_are 32 k slots lt;
  limit = λ slots. bits_below_limit 32 slots;
  rule = λ slices index said rule k e lt. readers_named slices index said rule k e lt;
}
