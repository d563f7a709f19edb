use Rattle.std.proofs.Common.{◌≡◌, ◌∙◌, ◌+◌, ◌-◌, ◌++◌, ◌∷◌, ℕ, List, [], take, decimal, ap, sym, arith, append_assoc, length-take-le}
use Rattle.std.proofs.lemmas.List.{take-take, take_more_set}
use lib.Seq.{take-append-add}
use Rattle.fv_report.specs.Digits.{HasTens}
use Rattle.fv_report.proofs.number.Tens.put.Goals as goal

pub returns-clause-written : goal.returns-clause-written
unfolding HasTens
returns-clause-written c =
    let line = c.args.line.now in
    let at = c.args.at in
    let tens = c.self.inside in
    let digit = c.args.number - tens.first in
    let number : tens.first + digit ≡ c.args.number = omega arith in
    let front = take at line in
    let size = length-take-le at line (omega arith) in
    take_more_set c.put_text-end.new.line (at + tens.before) (48 + digit) (omega arith)
    ∙ ap (λ (written : List ℕ). written ++ (48 + digit) ∷ [])
    (sym (take-take (at + tens.before) c.put_text-end.result c.put_text-end.new.line (omega (arith, c.put_text-end.ensures.end))) ∙ ap (take (at + tens.before)) c.put_text-end.ensures.written
    ∙ ap (λ (n : ℕ). take (n + tens.before) (front ++ tens.text)) (sym size) ∙ take-append-add front tens.text tens.before)
    ∙ append_assoc front (take tens.before tens.text) ((48 + digit) ∷ [])
    ∙ ap (λ (digits : List ℕ). front ++ digits) (c.self.invariant.1 digit (omega arith) ∙ ap decimal number)
