-- What a run of the live proxy under a policy did, and why it ended. This proxy's own rules.
use Rattle.std.specs.Prelude.{ℕ, ◌≡◌, ◌≤◌, ◌⊎◌, List, Option}
use Rattle.fv_base.specs.Told.{Rose}
use Rattle.fv_live.specs.Live.{count_more}
use Rattle.fv_live.specs.Roles.{Role, started}
use Rattle.live_serve.specs.declared.group.StartFault.{StartFault}
use Rattle.live_serve.specs.declared.group.StartFault.TheVariants.{Start, Memory}
use Rattle.live_serve.specs.declared.accept.RunEnd.{RunEnd}
use Rattle.live_serve.specs.declared.accept.RunEnd.TheVariants.{Done, NoMemory, WireFault, NoThread}
use Rattle.live_serve.specs.Roles.{groups, Partly}

-- the outside at one time: how many connections were accepted and which threads were started, where these are shown; and how often a call for the place and a start have failed
pub record ServeOutside : Type 0 where
  pub accepted : Option ℕ
  pub roles : Option (List Role)
  pub wire_faults : ℕ
  pub start_faults : ℕ

abbrev pub outside : Option ℕ → Option (List Role) → ℕ → ℕ → ServeOutside
outside accepted roles wire_faults start_faults = record { accepted = accepted; roles = roles; wire_faults = wire_faults; start_faults = start_faults }

-- so many connections were accepted, and whole groups of threads were started for so many of them
pub record Opened (addresses : List (List ℕ)) (connections sessions : ℕ) (a b : ServeOutside) : Type 0 where
  pub accepted : b.accepted ≡ count_more a.accepted connections
  pub roles : b.roles ≡ started a.roles (groups sessions addresses)

-- some connections were accepted, and the threads that were started begin as many groups
pub record SomeGroups (addresses : List (List ℕ)) (a b : ServeOutside) : Type 0 where
  pub connections : ℕ
  pub accepted : b.accepted ≡ count_more a.accepted connections
  pub roles : Partly a.roles (groups connections addresses) b.roles

-- all connections were accepted; all of them became sessions, or at least 16
pub record AllServed (addresses : List (List ℕ)) (count : ℕ) (a b : ServeOutside) : Type 0 where
  pub sessions : ℕ
  pub opened : Opened addresses count sessions a b
  pub within : sessions ≤ count
  pub enough : (count ≤ sessions) ⊎ (16 ≤ sessions)

-- nothing was accepted, and nothing started
abbrev pub Untouched : ServeOutside → ServeOutside → Type 0
Untouched a b = (b.accepted ≡ a.accepted) × (b.roles ≡ a.roles)

-- why a run under a policy whose slices have these controllers ended
abbrev pub IsRunCause : List (List ℕ) → ℕ → ServeOutside → ServeOutside → RunEnd → Type 0
IsRunCause addresses count a b Done = AllServed addresses count a b
IsRunCause addresses count a b NoMemory = SomeGroups addresses a b
IsRunCause addresses count a b WireFault = SomeGroups addresses a b × Rose a.wire_faults b.wire_faults
IsRunCause addresses count a b NoThread = SomeGroups addresses a b × Rose a.start_faults b.start_faults

-- the end of a run whose threads weren't all started
abbrev pub EndsBy : StartFault → RunEnd → Type 0
EndsBy Start end = end ≡ NoThread
EndsBy Memory end = end ≡ NoMemory
