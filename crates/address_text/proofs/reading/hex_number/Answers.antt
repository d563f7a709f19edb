use Rattle.std.proofs.Common.{arith}
use Rattle.address_text.proofs.Powers.{within_word}
use Rattle.address_text.proofs.reading.hex_number.Goals as goal

pub overflow_mul-number : goal.overflow_mul-number
overflow_mul-number c = omega (arith, within_word c.loop-c.number c.loop-c.c-index 0 (omega arith) c.loop-c.invariant.1 (omega arith))

pub overflow_add-number : goal.overflow_add-number
overflow_add-number c = omega (arith, within_word c.loop-c.number c.loop-c.c-index c.in_ok-number.field-0 (omega arith) c.loop-c.invariant.1 c.in_ok-number.ensures.small)
