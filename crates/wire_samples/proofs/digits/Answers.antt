use Rattle.std.proofs.Common.{rules, ap, ◌∙◌, ◌==◌, not, filter}
use Rattle.std.proofs.lemmas.Fn.{filter_same}
use Rattle.wire_samples.proofs.digits.Goals as goal

pub returns : goal.returns
returns c =
    filter_same _ (λ b. not (b == 32)) _ (λ x b f' k. search rules) _ _ c.retain.ensures.filtered
    ∙ ap (λ v. filter (λ b. not (b == 32)) v.items) c.into_bytes-digits.ensures.value
    ∙ ap (filter (λ b. not (b == 32))) c.in_ok-concat.ensures.ok
