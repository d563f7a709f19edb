use Rattle.std.proofs.Common.{subst, sym}
use Rattle.std.specs.Str.Parse.{ParsesUnsigned}
use Rattle.fv_base.proofs.Numbered.{not_parsed}
use Rattle.fv_base.proofs.words.number.Goals as goal

pub returns-in_default : goal.returns-in_default
returns-in_default c = not_parsed c.args.least c.args.most c.args.word.now c.ranges.most.fits (sym c.if-not-is_number.ensures) (subst (λ r. ParsesUnsigned 64 10 c.args.word.now r) c.in_default.is c.parse.ensures.value.0)
