use Rattle.desk_words.proofs.Reporting.{come_before_later}
use Rattle.desk_words.proofs.laws.earlier_records_have_the_first_events.Goals as goal

pub returns : goal.returns
returns c = come_before_later
