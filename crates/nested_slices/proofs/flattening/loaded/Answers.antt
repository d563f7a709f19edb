use Rattle.std.proofs.Common.{◌≡◌, ◌⊎◌, Err, subst, sym}
use Rattle.flowspace.specs.Loading.{load_of}
use Rattle.nested_slices.specs.Refused.{told_flat}
use Rattle.nested_slices.specs.declared.fault.NestFault.TheVariants.{Memory}
use Rattle.nested_slices.proofs.Flattened.{told_again}
use Rattle.nested_slices.proofs.flattening.loaded.Goals as goal

pub returns-in-Err-clause-answer : goal.returns-in-Err-clause-answer
returns-in-Err-clause-answer c =
    let l = load_of c.args.parts.slices.items c.args.parts.rules.items in
    subst (λ f. (f ≡ Memory) ⊎ (told_flat l ≡ Err f)) (sym c.told_fault.ensures) (told_again c.in-Err.fault l c.in-Err.ensures.answer)
