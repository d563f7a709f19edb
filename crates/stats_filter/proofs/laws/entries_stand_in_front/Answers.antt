use Rattle.std.proofs.Common.{subst}
use Rattle.stats_filter.specs.Laws.{AreInFront}
use Rattle.stats_filter.proofs.Rows.{AreInFront-entries_in, entries_in-AreInFront, entries_in-concat}
use Rattle.stats_filter.proofs.laws.entries_stand_in_front.Goals as goal

pub returns-clause-found : goal.returns-clause-found
returns-clause-found c = λ kind bytes entries. (λ e. subst (AreInFront kind bytes) e (AreInFront-entries_in kind bytes), entries_in-AreInFront kind bytes entries)

pub returns-clause-again : goal.returns-clause-again
returns-clause-again c = entries_in-concat
