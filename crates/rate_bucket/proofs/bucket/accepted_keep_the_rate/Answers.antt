use Rattle.rate_bucket.proofs.Levels.{accepted-window}
use Rattle.rate_bucket.proofs.bucket.accepted_keep_the_rate.Goals as goal

pub returns : goal.returns
returns c = accepted-window
