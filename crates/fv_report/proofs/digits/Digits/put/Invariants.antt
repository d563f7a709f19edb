use Rattle.std.proofs.Common.{◌≡◌, ◌*◌, length}
use Rattle.fv_report.specs.Digits.{HasDigits}
use Rattle.fv_report.proofs.digits.Digits.put.Given as goal

abbrev pub invariant-loop-eight : goal.invariant-loop-eight
invariant-loop-eight l = (length l.out ≡ 2 * length l.bytes) × HasDigits (8 * l.eight) l.bytes l.out

abbrev pub invariant-loop-at : goal.invariant-loop-at
invariant-loop-at l = (length l.out ≡ 2 * length l.bytes) × HasDigits l.at l.bytes l.out
