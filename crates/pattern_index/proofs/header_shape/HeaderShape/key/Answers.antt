use Rattle.pattern_index.proofs.Masks.{key_masked}
use Rattle.pattern_index.proofs.header_shape.HeaderShape.key.Goals as goal

pub returns : goal.returns
returns c = rw (← c.self.view_is, ← c.h.view_is) (key_masked c.self.inside.shape c.self.inside.masks _ c.self.invariant.0 c.h.invariant)
