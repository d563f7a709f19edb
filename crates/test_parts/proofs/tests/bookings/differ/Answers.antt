use Rattle.std.proofs.Common.{◌≡◌, sym, subst, ◌∙◌, true}
use Rattle.std.proofs.lemmas.Bool.{both_ways, not-true}
use Rattle.of10_model.specs.Inclusion.{includes_of}
use Rattle.flow_book.proofs.Standing.{includes_itself}
use Rattle.test_parts.proofs.tests.bookings.differ.Goals as goal

pub returns : goal.returns
returns c passes same =
    both_ways (includes_of c.args.one.now c.args.other.now) (sym c.includes.ensures.value ∙ not-true c.includes.result passes)
    (subst (λ m. includes_of c.args.one.now m ≡ true) same (includes_itself c.args.one.now c.pattern.ensures.normal))
