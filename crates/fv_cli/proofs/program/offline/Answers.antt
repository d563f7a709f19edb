use Rattle.std.proofs.Common.{ℕ, ◌≡◌, sym, subst}
use Rattle.std.specs.Prelude.{◌⊎◌}
use Rattle.fv_base.specs.Words.{form_of}
use Rattle.fv_cli.proofs.Completing.{completes}
use Rattle.fv_cli.proofs.program.offline.Goals as goal

pub returns-clause-complete : goal.returns-clause-complete
returns-clause-complete g c = λ due is calm.
    subst (λ (status : ℕ). (status ≡ due) ⊎ (status ≡ 6)) (sym c.status.ensures) (completes _ (form_of c.args.words.now) c.decide-ending.result c.decide-ending.ensures.cause due is calm)
