-- What the tests of a slice's name and of its controller say.
use Rattle.std.proofs.Common.{ℕ, ◌≤◌, ◌&&◌, leb, leb-true, le-leb, IsTrue, List, length, All, refl}
use Rattle.std.specs.List.{list_all}
use Rattle.std.proofs.lemmas.Bool.{and_parts}
use Rattle.std.proofs.lemmas.List.Sums.{list_all-from_AllPass, AllPass-from_list_all}
use Rattle.flowspace.specs.Slices.{is_name_byte, is_name, is_controller}

pub name_from : (name : List ℕ) → 1 ≤ length name → length name ≤ 32 → All (λ b. IsTrue (is_name_byte b)) name → IsTrue (is_name name)
name_from name some short each = rw (le-leb 1 (length name) some, le-leb (length name) 32 short) (list_all-from_AllPass is_name_byte name each)

-- what holds of each name
pub record IsName (name : List ℕ) : Type 0 where
  pub some : 1 ≤ length name
  pub short : length name ≤ 32
  pub bytes : All (λ b. IsTrue (is_name_byte b)) name

pub name_parts : (name : List ℕ) → IsTrue (is_name name) → IsName name
name_parts name h =
    let (size, bytes) = and_parts (leb 1 (length name) && leb (length name) 32) (list_all is_name_byte name) h in
    let (some, short) = and_parts (leb 1 (length name)) (leb (length name) 32) size in
    record { some = leb-true _ _ some; short = leb-true _ _ short; bytes = AllPass-from_list_all is_name_byte name bytes }

pub controller_from : (controller : List ℕ) → 1 ≤ length controller → length controller ≤ 255 → IsTrue (is_controller controller)
controller_from controller some short = rw (le-leb 1 (length controller) some, le-leb (length controller) 255 short) refl

pub controller_parts : (controller : List ℕ) → IsTrue (is_controller controller) → (1 ≤ length controller) × (length controller ≤ 255)
controller_parts controller h =
    let (some, short) = and_parts (leb 1 (length controller)) (leb (length controller) 255) h in
    (leb-true _ _ some, leb-true _ _ short)
