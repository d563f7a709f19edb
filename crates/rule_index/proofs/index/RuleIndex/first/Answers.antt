use Rattle.rule_index.proofs.Indexes.{index_first}
use Rattle.rule_index.proofs.index.RuleIndex.first.Goals as goal

pub returns : goal.returns
returns c =
    rw (← c.self.view_is) (index_first c.self.inside.rules.items c.self.inside.all c.self.inside.written c.args.h.now c.least_of_header.result c.self.invariant c.least_of_header.ensures)
