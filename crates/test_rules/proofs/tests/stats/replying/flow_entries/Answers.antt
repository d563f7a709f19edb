use Rattle.std.proofs.Common.{refl, arith}
use Rattle.of10_stats.specs.Replies.{length_of}
use Rattle.test_rules.specs.declared.tests.stats.replying.TheConstants.{ENTRY}
use Rattle.test_rules.proofs.Rows.{row_more, row_small}
use Rattle.test_rules.proofs.tests.stats.replying.flow_entries.Goals as goal

pub loop-preserved : goal.loop-preserved
unfolding length_of
loop-preserved c = rw c.in_ok-extend_from_slice.ensures.items (row_more c.loop.entries.items ENTRY c.loop.invariant refl (omega arith))

pub returns : goal.returns
returns c = row_small c.loop.entries.items c.loop.invariant
