use Rattle.desk_words.proofs.Reporting.{each_slice}
use Rattle.desk_words.proofs.laws.event_shows_each_slice.Goals as goal

pub returns : goal.returns
returns c = each_slice
