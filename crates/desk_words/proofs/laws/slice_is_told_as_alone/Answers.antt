use Rattle.desk_words.proofs.Sessions.{told_as_alone}
use Rattle.desk_words.proofs.laws.slice_is_told_as_alone.Goals as goal

pub returns : goal.returns
returns c = told_as_alone
