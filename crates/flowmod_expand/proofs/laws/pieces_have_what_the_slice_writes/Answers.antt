use Rattle.flowmod_expand.proofs.Space.{Any-pieces_of, Any-pieces_of-Writes}
use Rattle.flowmod_expand.proofs.laws.pieces_have_what_the_slice_writes.Goals as goal

pub returns : goal.returns
returns c = record {
  rules = λ rules slot m h. Any-pieces_of rules slot m h;
  policy = λ slices rules policy slot m h range. Any-pieces_of-Writes slices rules policy slot m h range;
}
