use Rattle.std.proofs.Common.{ℕ, List, ◌≡◌, length, Ok, sym, subst}
use Rattle.recording.specs.Recordings.{all_told, read_items}
use Rattle.flowspace.specs.Policies.{PolicyView}
use Rattle.fv_generator.specs.Made.{records_of}
use Rattle.fv_cli.proofs.program.generate.Goals as goal

pub summarise-requires : goal.summarise-requires
summarise-requires g c =
    let told = all_told 8 (records_of c.args.seed c.args.count) in (
      told,
      subst (λ (bytes : List ℕ). read_items (length c.in-Ok.policy.slices) bytes ≡ Ok told) (sym c.deref.ensures.value)
          (subst (λ (p : PolicyView). read_items (length p.slices) c.in-Ok-made_recording.bytes.items ≡ Ok told) (sym c.in-Ok.ensures) c.in-Ok-made_recording.ensures.read),
    )
