use Rattle.std.proofs.Common.{sym, ◌∙◌}
use Rattle.pattern_index.proofs.Putting.{same_shapes}
use Rattle.pattern_index.proofs.shape.is_same_shape.Goals as goal

pub returns : goal.returns
returns c = λ same. same_shapes c.args.a.now c.args.b.now (sym c.eq.ensures ∙ same)
