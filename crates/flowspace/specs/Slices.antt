-- Slices, and which values they may have. All of this is the proxy's own rule.
use Rattle.std.specs.Prelude.{ℕ, ◌≤◌, Bool, ◌||◌, ◌&&◌, ◌==◌, leb, IsTrue, List, length, All, Option, position, bytes_eq}
use Rattle.std.specs.List.{list_all}
use Rattle.flowspace.specs.declared.slices.Slice.{Slice}

-- a letter a to z, a digit, `_` or `-`
abbrev pub is_name_byte : ℕ → Bool
is_name_byte b = (leb 97 b && leb b 122) || (leb 48 b && leb b 57) || (b == 95) || (b == 45)

-- a name is 1 to 32 letters a to z, digits, `_` and `-`
abbrev pub is_name : List ℕ → Bool
is_name name = (leb 1 (length name) && leb (length name) 32) && list_all is_name_byte name

-- a controller's address has 1 to 255 bytes
abbrev pub is_controller : List ℕ → Bool
is_controller controller = leb 1 (length controller) && leb (length controller) 255

-- a slice is plain where its name, its controller, its rate, its burst and its quota are within their limits
pub record IsPlainSlice (s : Slice) : Type 0 where
  pub name_some : 1 ≤ length s.name
  pub name_short : length s.name ≤ 32
  pub name_bytes : All (λ b. IsTrue (is_name_byte b)) s.name
  pub controller_some : 1 ≤ length s.controller
  pub controller_short : length s.controller ≤ 255
  pub rate_some : 1 ≤ s.rate
  pub rate_limit : s.rate ≤ 1000000
  pub burst_some : 1 ≤ s.burst
  pub burst_limit : s.burst ≤ 1000000
  pub quota_limit : s.quota ≤ 4096

-- the slot of a name: the place of the first slice that has it
abbrev pub slot_named : List Slice → List ℕ → Option ℕ
slot_named slices name = position (λ s. bytes_eq s.name name) slices
