use Rattle.rate_bucket.proofs.Levels.{BucketStands-decides, answer_conforms}
use Rattle.rate_bucket.proofs.bucket.RateBucket.conforms.Goals as goal

pub returns-clause-value : goal.returns-clause-value
returns-clause-value c questions s =
    BucketStands-decides c.args.self.now questions c.args.moment c.level_at.result s c.level_at.ensures

pub returns-clause-answer : goal.returns-clause-answer
returns-clause-answer c questions s =
    answer_conforms _ c.args.self.now.rate c.args.self.now.burst questions c.args.moment (returns-clause-value c questions s)
