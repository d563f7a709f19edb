use Rattle.pattern_index.proofs.header_shape.HeaderShape.of.Goals as goal

pub invariant_of-result : goal.invariant_of-result
invariant_of-result c = (c.masks_of.ensures, c.is_of_headers.ensures)
