use Rattle.std.proofs.Common.{Ok, ap, sym, subst, ◌∙◌}
use Rattle.of10_action.specs.Reading.{Fails, read_all}
use Rattle.of10_action.proofs.Again.{actions_again}
use Rattle.of10_action.proofs.decode.decode_list.Goals as goal

pub returns-in-Err-clause-only : goal.returns-in-Err-clause-only
returns-in-Err-clause-only c = λ actions fits e. subst (λ f. Fails c.in-Err.fault f) (ap read_all e ∙ actions_again actions fits) c.in-Err.ensures.exact

pub returns-in-Ok-clause-only : goal.returns-in-Ok-clause-only
returns-in-Ok-clause-only c = λ actions fits e. sym (ap read_all e ∙ actions_again actions fits) ∙ c.in-Ok.ensures.exact ∙ ap (λ x. Ok x) (sym c.from_vec.ensures)
