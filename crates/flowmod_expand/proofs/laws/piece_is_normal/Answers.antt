use Rattle.flowmod_expand.specs.Pieces.{pieces_of}
use Rattle.flowmod_expand.proofs.Space.{pieces_of_normal, some_header}
use Rattle.flowmod_expand.proofs.laws.piece_is_normal.Goals as goal

pub returns : goal.returns
returns c = record {
  normal = λ rules slot m normal normal_m. pieces_of_normal rules slot m normal normal_m;
  header = λ rules slot m normal normal_m. some_header (pieces_of rules slot m) (pieces_of_normal rules slot m normal normal_m);
}
