use Rattle.rate_bucket.proofs.Levels.{conforms}
use Rattle.rate_bucket.proofs.bucket.room_is_conformance.Goals as goal

pub returns : goal.returns
returns c = conforms
