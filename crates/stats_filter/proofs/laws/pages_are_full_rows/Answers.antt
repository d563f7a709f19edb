use Rattle.std.proofs.Common.{subst}
use Rattle.stats_filter.specs.Laws.{ArePages}
use Rattle.stats_filter.proofs.Packing.{ArePages-pages, pages-ArePages}
use Rattle.stats_filter.proofs.Replying.{concat-pages}
use Rattle.stats_filter.proofs.laws.pages_are_full_rows.Goals as goal

pub returns-clause-bytes : goal.returns-clause-bytes
returns-clause-bytes c = concat-pages

pub returns-clause-rows : goal.returns-clause-rows
returns-clause-rows c = λ entries rows small. (λ e. subst (ArePages entries) e (ArePages-pages entries small), pages-ArePages entries rows)
