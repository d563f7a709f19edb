use Rattle.std.proofs.Common.{◌≡◌, Some, subst}
use Rattle.fv_base.specs.declared.words.Form.{Form}
use Rattle.fv_base.specs.Words.{form_bytes, form_of}
use Rattle.fv_cli.proofs.Making.{few_rounds}
use Rattle.fv_cli.proofs.program.decide.Goals as goal

pub generate-requires : goal.generate-requires
generate-requires g c =
    few_rounds c.args.words.now c.in-Ok-Gen.seed c.in-Ok-Gen.count
    (subst (λ (form : Form). Some (form_bytes form) ≡ form_of c.args.words.now) c.in-Ok-Gen.field-0-is c.in-Ok-Gen.ensures)
