use Rattle.std.proofs.Common.{subst, sym, ap, map, ◌∙◌, ◌≡◌}
use Rattle.std.specs.Prelude.{None}
use Rattle.std.specs.String.{string_bytes}
use Rattle.fv_base.specs.Words.{form_of}
use Rattle.fv_base.proofs.Numbered.{few_words, many_words}
use Rattle.fv_base.proofs.words.read_words.Goals as goal

pub returns-in-len1 : goal.returns-in-len1
returns-in-len1 c = subst (λ words. None ≡ form_of words) (sym (sym c.words.view_is ∙ ap (map string_bytes) (sym c.as_slice.ensures.value))) (few_words string_bytes c.as_slice.result.now c.in-len1.len_below)

pub returns-in-len5-up : goal.returns-in-len5-up
returns-in-len5-up c = subst (λ words. None ≡ form_of words) (sym (sym c.words.view_is ∙ ap (map string_bytes) (sym c.as_slice.ensures.value))) (many_words string_bytes c.as_slice.result.now c.in-len5-up.len_at_least)
