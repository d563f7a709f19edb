use Rattle.std.proofs.Common.{sym, subst, inr}
use Rattle.nested_slices.specs.Refused.{GivesFlat}
use Rattle.nested_slices.proofs.Flattened.{told_early, told_late, early_few}
use Rattle.nested_slices.proofs.flattening.flattened.Goals as goal

pub returns-in-Some-clause-answer : goal.returns-in-Some-clause-answer
returns-in-Some-clause-answer c = inr (told_early c.args.outer.now c.args.slot c.args.inner.now c.in-Some.fault (sym c.in-Some.ensures.value))

pub returns-in-Some-clause-few : goal.returns-in-Some-clause-few
returns-in-Some-clause-few c = early_few c.args.outer.now c.args.slot c.args.inner.now c.in-Some.fault (sym c.in-Some.ensures.value)

pub returns-in-None-clause-answer : goal.returns-in-None-clause-answer
returns-in-None-clause-answer c = subst (GivesFlat c.flat_policy.result) (sym (told_late c.args.outer.now c.args.slot c.args.inner.now (sym c.in-None.ensures.value))) c.flat_policy.ensures.answer
