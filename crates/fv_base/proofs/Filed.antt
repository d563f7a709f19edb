-- A file is added behind the others.
use Rattle.std.proofs.Common.{◌≡◌, ℕ, List, [], ◌∷◌, ◌++◌, refl, true, false}
use Rattle.std.specs.Prelude.{Option, Some, None, if◌then◌else◌}
use Rattle.std.specs.Option.{option_or}
use Rattle.std.specs.Str.{bytes_eq}
use Rattle.std.specs.String.{string_bytes}
use Rattle.fv_base.specs.declared.memory.File.{File}
use Rattle.fv_base.specs.Memory.{file_at}

pub file_at-added : (files : List File) (file : File) (at : List ℕ) → file_at (files ++ file ∷ []) at ≡ option_or (file_at files at) (if bytes_eq (string_bytes file.path) at then Some file.bytes.items else None)
file_at-added [] file at = refl
file_at-added (first ∷ others) file at =
    let last : Option (List ℕ) = if bytes_eq (string_bytes file.path) at then Some file.bytes.items else None in
    elim (bytes_eq (string_bytes first.path) at) as (λ b. (if b then Some first.bytes.items else file_at (others ++ file ∷ []) at) ≡ option_or (if b then Some first.bytes.items else file_at others at) last) [
      | true ↦ refl
      | false ↦ file_at-added others file at
    ]
