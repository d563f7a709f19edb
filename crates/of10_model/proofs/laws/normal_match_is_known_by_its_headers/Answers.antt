use Rattle.of10_model.proofs.Including.{same_headers}
use Rattle.of10_model.proofs.laws.normal_match_is_known_by_its_headers.Goals as goal

pub returns : goal.returns
returns c = same_headers
