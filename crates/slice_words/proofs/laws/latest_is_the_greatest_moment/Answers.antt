use Rattle.slice_words.proofs.Moments.{at_least_each, one_or_zero}
use Rattle.slice_words.proofs.laws.latest_is_the_greatest_moment.Goals as goal

pub returns-clause-least : goal.returns-clause-least
returns-clause-least c = at_least_each

pub returns-clause-one : goal.returns-clause-one
returns-clause-one c = one_or_zero
