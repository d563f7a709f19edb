use Rattle.std.proofs.Common.{Some, None}
use Rattle.rule_index.proofs.Indexes.{index_owner}
use Rattle.rule_index.proofs.index.RuleIndex.owner_of.Goals as goal

pub returns-in-Some : goal.returns-in-Some
returns-in-Some c =
    rw (← c.self.view_is, c.writer_at.ensures, c.deref.ensures.value)
    (index_owner c.self.inside.rules.items c.self.inside.all c.self.inside.written c.args.m.now c.pattern.result.now c.least.result (Some c.in-Some.place) c.self.invariant c.pattern.ensures.value c.least.ensures c.in-Some.is)

pub returns-in-None : goal.returns-in-None
returns-in-None c =
    rw (← c.self.view_is)
    (index_owner c.self.inside.rules.items c.self.inside.all c.self.inside.written c.args.m.now c.pattern.result.now c.least.result None c.self.invariant c.pattern.ensures.value c.least.ensures c.in-None.is)
