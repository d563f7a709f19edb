use Rattle.std.proofs.Common.{◌≡◌, ◌∙◌, ◌-◌, ◌%◌, ℕ, List, length, take, decimal, ap, sym, subst, arith}
use Rattle.std.proofs.lemmas.List.{take-append-le}
use Rattle.std.proofs.lemmas.Fmt.{decimal_nonempty, length-decimal-le}
use Rattle.fv_report.specs.Digits.{HasTens}
use Rattle.fv_report.proofs.Numbers.{tens_of}
use Rattle.fv_report.proofs.number.Tens.of.Goals as goal

pub overflow_sub-result : goal.overflow_sub-result
overflow_sub-result c =
    let text : c.as_bytes-digits.result.now ≡ decimal (c.args.number - c.args.number % 10) = c.as_bytes-digits.ensures.value ∙ c.format.ensures.text in
    omega (arith, ap length text, decimal_nonempty (c.args.number - c.args.number % 10) (omega arith))

pub invariant_of-result : goal.invariant_of-result
invariant_of-result c =
    let first = c.args.number - c.args.number % 10 in
    let digits = c.as_bytes-digits.result.now in
    let text : digits ≡ decimal first = c.as_bytes-digits.ensures.value ∙ c.format.ensures.text in
    let few = length-decimal-le 20 first (omega arith) (omega arith) (omega arith) in
    let copied : c.copy_from_slice.new.self ≡ digits = c.copy_from_slice.ensures.after in (
      omega (arith, ap length text, few),
      subst (HasTens first) (ap (λ (t : List ℕ). take (length t - 1) t) (sym text) ∙ sym (rw copied (take-append-le (length digits - 1) digits _ (omega arith))))
          (tens_of first (omega arith) (omega arith)),
    )
