use Rattle.std.proofs.Common.{arith, ap, ◌∙◌, ◌/◌, ◌%◌, slice_index, slice_index_or}
use Rattle.hex.specs.Hex.{encode_with, lower_digits}
use Rattle.hex.proofs.Pairs.{encode_step}
use Rattle.fv_report.specs.Digits.{ArePairs, HasDigits}
use Rattle.fv_report.proofs.digits.Digits.put_one.Goals as goal

pub returns-clause-digits : goal.returns-clause-digits
unfolding ArePairs encode_with HasDigits
returns-clause-digits c =
    let pair = c.self.invariant c.from.result (omega arith) in
    encode_step lower_digits c.args.bytes.now c.args.out.now c.args.at _ _ (omega arith) (omega arith)
    (ap (λ p. slice_index_or p 0 0) pair ∙ ap (λ b. slice_index lower_digits (b / 16)) c.from.ensures)
    (ap (λ p. slice_index_or p 1 0) pair ∙ ap (λ b. slice_index lower_digits (b % 16)) c.from.ensures) c.requires.before
