-- What calls on the outside say of what is shown, and of counts of faults. This proxy's own rules.
use Rattle.std.specs.Prelude.{◌≡◌, ◌⊎◌, ◌<◌, ◌≤◌, ◌-◌, ◌^◌, ℕ, List, [], ◌++◌, length, take, drop, Option, Some, None, Result, Err}
use Rattle.fv_base.specs.declared.transfer.LoadFault.{LoadFault}
use Rattle.fv_base.specs.declared.transfer.LoadFault.TheVariants.{ReadFault}

-- the contents after these bytes were appended: shown where they were shown before
abbrev pub appended : Option (List ℕ) → List ℕ → Option (List ℕ)
appended None bytes = None
appended (Some before) bytes = Some (before ++ bytes)

-- the bytes begin with the piece
abbrev pub IsBeginning : List ℕ → List ℕ → Type 0
IsBeginning piece bytes = (rest : List ℕ) × (piece ++ rest ≡ bytes)

-- The count rose. At the last value of a u64 it stays, and is taken as risen.
abbrev pub Rose : ℕ → ℕ → Type 0
Rose old new = (old < new) ⊎ (2 ^ 64 - 1 ≤ new)

-- What loading the file at a path leaves of the counts of all paths: at a read fault that of the path rose, else none changed.
abbrev pub CountedAt : {A : Type 0} → List ℕ → Result A LoadFault → (List ℕ → ℕ) → (List ℕ → ℕ) → Type 0
CountedAt path (Err ReadFault) old new = Rose (old path) (new path)
CountedAt path result old new = (at : List ℕ) → new at ≡ old at

-- The first n bytes of what is left of a file were put over the front of a buffer: none only at the end.
pub record GivesBytes (left before : List ℕ) (n : ℕ) (after : List ℕ) : Type 0 where
  pub some_left : n ≤ length left
  pub buffer : after ≡ take n left ++ drop n before
  pub at_end : n ≡ 0 → left ≡ []
