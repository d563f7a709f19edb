-- The packets that the switch buffers for one slice, under the slice's own numbers. All of this is this proxy's own rule.
-- Lists have the newest first.
use Rattle.std.specs.Prelude.{ℕ, ◌≡◌, ◌+◌, ◌%◌, ◌^◌, ◌==◌, nat_le, not, Bool, List, [], ◌∷◌, filter, find, Option}
use Rattle.of10_model.specs.Header.{Header}
use Rattle.buffer_map.specs.declared.held.Held.{Held}

-- what can be done to the buffered packets: one is given under the switch's number, the switch reuses its number, the slice uses the one of its number, all are dropped
pub data BufferCall : Type 0 where
  Give : ℕ → Header → BufferCall
  Lose : ℕ → BufferCall
  Use : ℕ → BufferCall
  Drop : BufferCall

-- how many were given
abbrev pub given : List BufferCall → ℕ
given [] = 0
given (Give physical header ∷ earlier) = given earlier + 1
given (Lose physical ∷ earlier) = given earlier
given (Use number ∷ earlier) = given earlier
given (Drop ∷ earlier) = given earlier

-- the slice knows the packet by this number, the low 24 bits of how many were given before it
abbrev pub numbered : ℕ → Held → Bool
numbered number b = b.ordinal % 2 ^ 24 == number

-- the packet is among the last 256 of so many given
abbrev pub is_recent : ℕ → Held → Bool
is_recent count b = nat_le count (b.ordinal + 256)

-- the packets that are held: those of the last 256 given that were not lost, used or dropped since
unfoldable pub held : List BufferCall → List Held
held [] = []
held (Give physical header ∷ earlier) = record { ordinal = given earlier; physical = physical; header = header } ∷ filter (is_recent (given earlier + 1)) (held earlier)
held (Lose physical ∷ earlier) = filter (λ b. not (b.physical == physical)) (held earlier)
held (Use number ∷ earlier) = filter (λ b. not (numbered number b)) (held earlier)
held (Drop ∷ earlier) = []

-- of these the one that the slice knows by this number
abbrev pub held_under : ℕ → List Held → Option Held
held_under number packets = find (numbered number) packets

-- what a map of buffers keeps
pub record Buffers : Type 0 where
  pub given : ℕ
  pub held : List Held

-- the map was called so
pub record BuffersStand (calls : List BufferCall) (kept : Buffers) : Type 0 where
  pub same_given : kept.given ≡ given calls
  pub same_held : kept.held ≡ held calls
