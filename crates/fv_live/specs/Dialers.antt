-- What diallers in memory do. This proxy's own rules.
use Rattle.std.specs.Prelude.{ℕ, List, Bool, true, false, Option, Some, None, ◌≡◌, ◌+◌, ◌-◌, ◌^◌, min}
use Rattle.std.specs.Arc.{arc_value}
use Rattle.fv_base.specs.Counts.{count_at, is_declared}
use Rattle.fv_live.specs.declared.dialer.MemoryDialer.{MemoryDialer}
use Rattle.fv_live.specs.Calls.{is_listed}

-- how many links were given after one call more that may have given one
abbrev pub given_after : {A : Type 0} → ℕ → Option A → ℕ
given_after given None = given
given_after given (Some link) = given + 1

-- the list says that the next dial fails, or there is no list
abbrev pub fails_dial : {S K : Type 0} → MemoryDialer S K → Bool
fails_dial dialer = elim dialer.links [
  | None ↦ true
  | Some links ↦ is_listed (arc_value links).failing.items dialer.calls
]

-- one dial more was made of the same list; the number of dials stays at the last value of a u64
pub record IsOneDialMore {S K : Type 0} (before after : MemoryDialer S K) : Type 0 where
  pub links : after.links ≡ before.links
  pub calls : after.calls ≡ min (before.calls + 1) (2 ^ 64 - 1)

-- nothing was dialled yet, and no address has a count of its own
pub record IsFresh {S K : Type 0} (dialer : MemoryDialer S K) : Type 0 where
  pub calls : dialer.calls ≡ 0
  pub given : dialer.given ≡ 0
  pub counts : (at : List ℕ) → count_at dialer.counts at ≡ 0
  pub declared : (at : List ℕ) → is_declared dialer.counts at ≡ false
