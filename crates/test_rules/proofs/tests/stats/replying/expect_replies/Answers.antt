use Rattle.stats_filter.proofs.Coming.{small_entries}
use Rattle.test_rules.proofs.tests.stats.replying.expect_replies.Goals as goal

pub replies-requires : goal.replies-requires
replies-requires c = record { small = λ sent is. small_entries sent c.args.entries.now c.requires }
