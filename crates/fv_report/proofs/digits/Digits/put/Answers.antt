use Rattle.std.proofs.Common.{arith, refl}
use Rattle.hex.specs.Hex.{lower_digits}
use Rattle.hex.proofs.Pairs.{encode_done}
use Rattle.fv_report.specs.Digits.{HasDigits}
use Rattle.fv_report.proofs.digits.Digits.put.Goals as goal

pub returns : goal.returns
unfolding HasDigits
returns c = encode_done lower_digits _ _ c.loop-at.at (omega arith) (omega arith) c.loop-at.invariant.1

pub loop-eight-init : goal.loop-eight-init
unfolding HasDigits
loop-eight-init c = (c.requires, refl)
