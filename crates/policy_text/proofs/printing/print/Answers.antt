use Rattle.std.proofs.Common.{◌≡◌, ◌∙◌, IsUtf8, ap, subst}
use Rattle.std.proofs.lemmas.Str.{IsUtf8-string_bytes}
use Rattle.policy_text.specs.Documents.{document_of, policy_up_to}
use Rattle.policy_text.specs.Printing.{text_of}
use Rattle.policy_text.proofs.PrintedPolicy.{IsHeld, printed}
use Rattle.policy_text.proofs.printing.print.Goals as goal

pub returns-clause-read_again : goal.returns-clause-read_again
returns-clause-read_again c = λ highest le.
    (let text = c.in_ok-text.ensures.text in
    let same : c.from_vec.result ≡ text_of c.args.policy.now = c.from_vec.ensures ∙ ap (λ v. v.items) c.into_bytes.ensures.value ∙ text in
    let utf8 : IsUtf8 (text_of c.args.policy.now) = subst IsUtf8 text (IsUtf8-string_bytes c.in_ok-text.text) in
    let held : IsHeld c.args.policy.now = record { policy = c.in_ok-text.ensures.policy; swaps = c.in_ok-text.ensures.swaps; rules_held = c.in_ok-text.ensures.held; swaps_held = c.in_ok-text.ensures.swaps_held } in
    ap (λ b. policy_up_to highest (document_of b)) same ∙ printed highest c.args.policy.now le held utf8)
