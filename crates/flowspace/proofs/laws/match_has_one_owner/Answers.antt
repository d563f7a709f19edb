use Rattle.flowspace.proofs.Owning.{owner_of_match-iff, owner_of_match-Owns}
use Rattle.flowspace.proofs.laws.match_has_one_owner.Goals as goal

pub returns : goal.returns
returns c = record {
  tested = λ slices rules policy slot m normal_m. owner_of_match-iff slices rules policy slot m normal_m;
  headers = λ slices rules policy normal slot m normal_m. owner_of_match-Owns slices rules policy normal slot m normal_m;
}
