use Rattle.std.proofs.Common.{sym, ◌∙◌}
use Rattle.rule_index.proofs.Indexes.{index_more, index_same}
use Rattle.rule_index.proofs.index.put_rule.Goals as goal

pub returns-in_ok-put-2 : goal.returns-in_ok-put-2
returns-in_ok-put-2 c =
    λ rules lt at index.
    index_more rules c.args.place c.args.rule.now c.args.all.now c.put.new.self c.args.written.now c.put-then-is_some.new.self lt at c.pattern-m.ensures.normal (sym c.is_some.ensures ∙ c.if-is_some.true)
    (rw c.pattern-m.ensures.value at c.in_ok-put.ensures.put) (rw c.pattern-m.ensures.value at c.in_ok-put-2.ensures.put) index

pub returns-else-is_some : goal.returns-else-is_some
returns-else-is_some c =
    λ rules lt at index.
    index_same rules c.args.place c.args.rule.now c.args.all.now c.put.new.self c.args.written.now lt at c.pattern-m.ensures.normal (sym c.is_some.ensures ∙ c.if-is_some.false)
    (rw c.pattern-m.ensures.value at c.in_ok-put.ensures.put) index
