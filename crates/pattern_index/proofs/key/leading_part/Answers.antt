use Rattle.std.proofs.Common.{ap, ◌∙◌, bit_and, arith}
use Rattle.pattern_index.proofs.Masks.{masked_address}
use Rattle.pattern_index.proofs.key.leading_part.Goals as goal

pub returns : goal.returns
returns c = ap (bit_and c.args.address) c.leading_ones.ensures ∙ masked_address c.args.bits c.args.address (omega (arith, c.ranges.address))
