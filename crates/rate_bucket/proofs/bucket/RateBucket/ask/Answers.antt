use Rattle.std.proofs.Common.{sym, ◌∙◌}
use Rattle.std.proofs.lemmas.Bool.{le-leb, lt-leb}
use Rattle.rate_bucket.proofs.Levels.{BucketStands-decides, BucketStands-refuse, BucketStands-accept, answer_conforms}
use Rattle.rate_bucket.proofs.bucket.RateBucket.ask.Goals as goal

pub returns-then-level-lt1000-clause-value : goal.returns-then-level-lt1000-clause-value
returns-then-level-lt1000-clause-value c questions s =
    sym (lt-leb 1000 c.level_at-level.result c.if-level-lt1000.true)
    ∙ BucketStands-decides c.args.self.now questions c.args.moment c.level_at-level.result s c.level_at-level.ensures

pub returns-then-level-lt1000-clause-answer : goal.returns-then-level-lt1000-clause-answer
returns-then-level-lt1000-clause-answer c questions s =
    answer_conforms _ c.args.self.now.rate c.args.self.now.burst questions c.args.moment (returns-then-level-lt1000-clause-value c questions s)

pub returns-then-level-lt1000-clause-stands : goal.returns-then-level-lt1000-clause-stands
returns-then-level-lt1000-clause-stands c questions s =
    BucketStands-refuse (record { rate = c.self.inside.rate; burst = c.self.inside.burst; moment = c.self.inside.moment; level = c.self.inside.level })
    questions c.args.moment c.level_at-level.result c.max-self-inside.result (rw (← c.self.view_is) at s)
    (rw (← c.self.view_is) at c.level_at-level.ensures) c.max-self-inside.ensures c.if-level-lt1000.true

pub returns-clause-value : goal.returns-clause-value
returns-clause-value c questions s =
    sym (le-leb 1000 c.level_at-level.result c.if-level-lt1000.false)
    ∙ BucketStands-decides c.args.self.now questions c.args.moment c.level_at-level.result s c.level_at-level.ensures

pub returns-clause-answer : goal.returns-clause-answer
returns-clause-answer c questions s =
    answer_conforms _ c.args.self.now.rate c.args.self.now.burst questions c.args.moment (returns-clause-value c questions s)

pub returns-clause-stands : goal.returns-clause-stands
returns-clause-stands c questions s =
    BucketStands-accept (record { rate = c.self.inside.rate; burst = c.self.inside.burst; moment = c.self.inside.moment; level = c.self.inside.level })
    questions c.args.moment c.level_at-level.result c.max-self-inside.result (rw (← c.self.view_is) at s)
    (rw (← c.self.view_is) at c.level_at-level.ensures) c.max-self-inside.ensures c.if-level-lt1000.false
