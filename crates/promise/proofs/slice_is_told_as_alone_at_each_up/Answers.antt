use Rattle.std.proofs.Common.{List, ap, ◌∙◌}
use Rattle.desk_words.specs.Recorded.{Happened}
use Rattle.desk_words.specs.Reports.{told_over}
use Rattle.desk_words.specs.Laws.{since_up}
use Rattle.desk_words.proofs.Reporting.{come_before_later}
use Rattle.desk_words.proofs.Sessions.{told_as_alone}
use Rattle.promise.proofs.slice_is_told_as_alone_at_each_up.Goals as goal

pub returns : goal.returns
returns c policy slot switch earlier later =
    ap (λ (events : List Happened). told_over policy slot (since_up switch events)) (come_before_later policy earlier later) ∙ told_as_alone policy slot switch earlier
