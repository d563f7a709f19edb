use Rattle.flowmod_expand.proofs.Space.{pieces_of_distinct, pieces_of_few}
use Rattle.flowmod_expand.proofs.laws.pieces_are_distinct.Goals as goal

pub returns : goal.returns
returns c = record {
  distinct = λ rules slot m. pieces_of_distinct rules slot m;
  few = λ rules slot m. pieces_of_few rules slot m;
}
