use Rattle.std.proofs.Common.{sym}
use Rattle.rule_index.proofs.Indexes.{index_none}
use Rattle.rule_index.proofs.index.indexes_of.Goals as goal

pub loop-place-init : goal.loop-place-init
loop-place-init c = index_none c.new-all.result c.new-written.result c.new-all.ensures c.new-written.ensures

pub loop-place-preserved : goal.loop-place-preserved
loop-place-preserved c = c.in_ok-put_rule.ensures c.args.rules.now c.loop-place-test.true (sym c.index-rules-place.is) c.loop-place.invariant
