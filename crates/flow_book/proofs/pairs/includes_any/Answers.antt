use Rattle.std.proofs.Common.{◌≡◌, ◌<◌, length, get_or, sym, ap, ◌∙◌, arith, inl, inr}
use Rattle.std.proofs.lemmas.Bool.{cases_lt}
use Rattle.std.proofs.lemmas.List.Folds.{list_any_at, list_any_none}
use Rattle.of10_model.specs.Inclusion.{includes_of}
use Rattle.flow_book.specs.declared.booked.Booked.{Booked}
use Rattle.flow_book.proofs.pairs.includes_any.Goals as goal

pub returns-then-includes : goal.returns-then-includes
returns-then-includes c =
    let x = c.at.result.now in
    let lt : c.loop-index.index < length c.args.entries.now.booked = omega (arith, c.loop-index-test.true, c.len-index-end.ensures) in
    sym (
    list_any_at (λ b. includes_of c.args.pattern.now b.pattern) c.args.entries.now.booked c.loop-index.index x lt
    (ap (λ (b : Booked). includes_of c.args.pattern.now b.pattern) (c.at.ensures x ∙ sym c.booked.ensures) ∙ sym c.includes.ensures.value ∙ c.if-includes.true))

pub loop-index-preserved : goal.loop-index-preserved
loop-index-preserved c k d le lt = elim (cases_lt k c.loop-index.index) [
  | inl before ↦ c.loop-index.invariant k d le before
  | inr last ↦
      let same : k ≡ c.loop-index.index = omega arith in
      ap (λ n. includes_of c.args.pattern.now (get_or c.args.entries.now.booked n d).pattern) same
      ∙ ap (λ (b : Booked). includes_of c.args.pattern.now b.pattern) (c.at.ensures d ∙ sym c.booked.ensures) ∙ sym c.includes.ensures.value ∙ c.if-includes.false
]

pub returns : goal.returns
returns c =
    sym (
    list_any_none (λ (b : Booked). includes_of c.args.pattern.now b.pattern) c.args.entries.now.booked
    (λ k d lt. c.loop-index.invariant k d (omega arith) (omega (arith, lt, c.loop-index-test.false, c.len-index-end.ensures))))
