use Rattle.stats_filter.proofs.Replying.{replies-pages, replies-entries}
use Rattle.stats_filter.proofs.laws.replies_have_the_pages.Goals as goal

pub returns-clause-pages : goal.returns-clause-pages
returns-clause-pages c = replies-pages

pub returns-clause-again : goal.returns-clause-again
returns-clause-again c = replies-entries
