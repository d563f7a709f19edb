use Rattle.std.proofs.Common.{sym, ap, ◌∙◌, arith}
use Rattle.std.specs.Ordering.{is_eq}
use Rattle.of10_model.proofs.Applied.{IsNormal-Norm}
use Rattle.flow_book.proofs.Searches.{stands, gap_for}
use Rattle.flow_book.proofs.finding.search.Goals as goal

pub returns-then-place-len-clause-normal : goal.returns-then-place-len-clause-normal
returns-then-place-len-clause-normal c = IsNormal-Norm c.args.spelled.now (λ k. omega (arith, c.fits-spelled k))

pub returns-then-is_eq-clause-normal : goal.returns-then-is_eq-clause-normal
returns-then-is_eq-clause-normal c = IsNormal-Norm c.args.spelled.now (λ k. omega (arith, c.fits-spelled k))

pub returns-else-is_eq-clause-normal : goal.returns-else-is_eq-clause-normal
returns-else-is_eq-clause-normal c = IsNormal-Norm c.args.spelled.now (λ k. omega (arith, c.fits-spelled k))

pub returns-else-is_eq-clause-absent : goal.returns-else-is_eq-clause-absent
returns-else-is_eq-clause-absent c pattern same =
    gap_for c.args.entries.now.booked pattern c.args.priority c.args.spelled.now same c.place_from-place.result c.requires.ascending c.place_from-place.ensures.bound c.place_from-place.ensures.below c.place_from-place.ensures.rest
    (λ d lt. ap (λ b. is_eq (stands c.args.priority c.args.spelled.now b)) (c.at.ensures d) ∙ sym (ap is_eq c.stands_to.ensures) ∙ sym c.is_eq.ensures ∙ c.if-is_eq.false)
