use Rattle.std.proofs.Common.{◌≡◌, [], length, sym, ◌∙◌, rules, eqb-true}
use Rattle.std.specs.Prelude.{vec_len}
use Rattle.std.proofs.lemmas.List.{nil_from_length}
use Rattle.outbox.specs.Queues.{push_all}
use Rattle.proxy_core.proofs.waiting.push_more.Goals as goal

pub returns-then-is_empty-clause-more : goal.returns-then-is_empty-clause-more
unfolding push_all
returns-then-is_empty-clause-more c = λ limit q h.
    let count : vec_len c.args.messages.now ≡ length c.args.messages.now.items = search rules in
    let none : c.args.messages.now.items ≡ [] = nil_from_length _ (sym count ∙ eqb-true (vec_len c.args.messages.now) 0 (sym c.is_empty.ensures ∙ c.if-is_empty.true)) in
    rw none h

pub returns-clause-more : goal.returns-clause-more
returns-clause-more c = rw (← c.replace.ensures.value) c.push_all.ensures
