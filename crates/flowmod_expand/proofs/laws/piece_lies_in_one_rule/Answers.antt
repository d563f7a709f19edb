use Rattle.flowmod_expand.proofs.Space.{Owns-pieces_of, Includes-pieces_of}
use Rattle.flowmod_expand.proofs.laws.piece_lies_in_one_rule.Goals as goal

pub returns : goal.returns
returns c = record {
  rule = λ rules slot m. Owns-pieces_of rules slot m;
  whole = λ rules slot m. Includes-pieces_of rules slot m;
}
