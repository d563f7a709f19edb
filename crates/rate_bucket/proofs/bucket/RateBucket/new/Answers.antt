use Rattle.rate_bucket.proofs.Levels.{BucketStands-new}
use Rattle.rate_bucket.proofs.bucket.RateBucket.new.Goals as goal

pub returns-clause-stands : goal.returns-clause-stands
returns-clause-stands c = rw c.from.ensures (BucketStands-new c.args.rate c.args.burst c.requires)
