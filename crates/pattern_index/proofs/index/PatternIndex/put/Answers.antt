use Rattle.pattern_index.proofs.Least.{stands_more, stands_still}
use Rattle.pattern_index.proofs.Outcomes.{on_ok, on_err}
use Rattle.pattern_index.proofs.index.PatternIndex.put.Goals as goal

pub returns-clause-put : goal.returns-clause-put
returns-clause-put c = on_ok c.put.result (stands_more c.args.m.now c.args.place c.args.self.now (record { groups = c.put.new.groups })) c.put.ensures.put

pub returns-clause-kept : goal.returns-clause-kept
returns-clause-kept c = on_err c.put.result (stands_still c.args.self.now (record { groups = c.put.new.groups })) c.put.ensures.kept
