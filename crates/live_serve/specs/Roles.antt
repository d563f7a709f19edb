-- Whom the threads of the live proxy serve. This proxy's own rules.
use Rattle.std.specs.Prelude.{ℕ, zero, suc, ◌≡◌, ◌+◌, ◌++◌, true, false, List, [], ◌∷◌, Option}
use Rattle.std.specs.String.{string_bytes}
use Rattle.flowspace.specs.declared.slices.Slice.{Slice}
use Rattle.fv_live.specs.Roles.{Role, TheSwitch, TheSlice, started}
use Rattle.live_serve.specs.declared.work.Job.{Job}
use Rattle.live_serve.specs.declared.work.Job.TheVariants.{ReadSwitch, WriteSwitch, ReadSlice, WriteSlice}

abbrev pub switch_reader : Role
switch_reader = record { served = TheSwitch; reads = true; address = [] }

abbrev pub switch_writer : Role
switch_writer = record { served = TheSwitch; reads = false; address = [] }

abbrev pub slice_reader : ℕ → List ℕ → Role
slice_reader slot address = record { served = TheSlice slot; reads = true; address = address }

abbrev pub slice_writer : ℕ → Role
slice_writer slot = record { served = TheSlice slot; reads = false; address = [] }

-- the role of what a thread does
abbrev pub role_of : {Dial C G In Out : Type 0} → Job Dial C G In Out → Role
role_of (ReadSwitch clock gate) = switch_reader
role_of WriteSwitch = switch_writer
role_of (ReadSlice reader) = slice_reader reader.slot (string_bytes reader.address)
role_of (WriteSlice slot) = slice_writer slot

abbrev pub switch_pair : List Role
switch_pair = switch_reader ∷ switch_writer ∷ []

-- the roles of the threads of a slice whose controller has this address
abbrev pub pair : ℕ → List ℕ → List Role
pair slot address = slice_reader slot address ∷ slice_writer slot ∷ []

-- the roles of the threads of the slices from a slot on, whose controllers have these addresses
abbrev pub slice_roles : ℕ → List (List ℕ) → List Role
slice_roles slot [] = []
slice_roles slot (address ∷ others) = pair slot address ++ slice_roles (slot + 1) others

-- where a slice's controller listens
abbrev pub controller_of : Slice → List ℕ
controller_of slice = slice.controller

-- the roles of the threads of one connection: the switch's reader and writer, and then each slice's
abbrev pub group : List (List ℕ) → List Role
group addresses = switch_pair ++ slice_roles 0 addresses

-- so many groups
abbrev pub groups : ℕ → List (List ℕ) → List Role
groups zero addresses = []
groups (suc n) addresses = group addresses ++ groups n addresses

-- threads of these roles begin the group
abbrev pub AreFirstRoles : List Role → List Role → Type 0
AreFirstRoles begun all = (others : List Role) × (begun ++ others ≡ all)

-- some of the threads of these roles were started, from the first on
abbrev pub Partly : Option (List Role) → List Role → Option (List Role) → Type 0
Partly before all after = (begun : List Role) × AreFirstRoles begun all × (after ≡ started before begun)
