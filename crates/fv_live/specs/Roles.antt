-- What the threads of a live proxy are for. This proxy's own rules.
use Rattle.std.specs.Prelude.{ℕ, Bool, List, ◌++◌, Option, Some, None}

-- whom a thread serves
pub data Served : Type 0 where
  TheSwitch : Served
  TheSlice : (slot : ℕ) → Served

-- what a thread is for: whom it serves, whether it reads or writes, and the address that it dials, which is empty but for a slice's reader
pub record Role : Type 0 where
  pub served : Served
  pub reads : Bool
  pub address : List ℕ

-- the roles of threads that are shown, and then these
abbrev pub started : Option (List Role) → List Role → Option (List Role)
started None more = None
started (Some before) more = Some (before ++ more)
