use Rattle.std.proofs.Common.{◌≡◌, ◌+◌, [], ◌∷◌, ◌++◌, take, decimal, ap, sym, ◌∙◌, append_assoc}
use Rattle.std.proofs.lemmas.Fmt.{decimal_digit}
use Rattle.fv_report.proofs.line.put_place.Goals as goal

pub returns-then-place-lt10-clause-written : goal.returns-then-place-lt10-clause-written
returns-then-place-lt10-clause-written c =
    let front = decimal c.args.place.number in
    let digit = 48 + c.args.place.switch in
    let number : take c.put-end.result c.put-end.new.line ≡ front = c.put-end.ensures.written in
    rw (decimal_digit c.args.place.switch c.if-place-lt10.true)
    (c.put_text.ensures.written ∙ ap (λ written. written ++ (32 ∷ digit ∷ 32 ∷ [])) number
    ∙ sym (append_assoc front (32 ∷ []) (digit ∷ 32 ∷ [])) ∙ sym (append_assoc (front ++ (32 ∷ [])) (digit ∷ []) (32 ∷ [])))
