-- What the definitions say, in words of the calls. Lists of calls have the newest first.
use Rattle.std.specs.Prelude.{◌≡◌, ◌%◌, ◌^◌, ◌<◌, List, ◌∷◌, ◌++◌, Contains}
use Rattle.buffer_map.specs.declared.held.Held.{Held}
use Rattle.buffer_map.specs.Buffers.{BufferCall, Give, Lose, Use, Drop, given}

-- the packet was given, and its ordinal is how many were given before it; since then fewer than 256 others were given, none was dropped, the switch did not reuse its number, and the slice did not use the packet
pub record IsHeld (calls : List BufferCall) (b : Held) : Type 0 where
  pub later : List BufferCall
  pub earlier : List BufferCall
  pub split : calls ≡ later ++ (Give b.physical b.header ∷ earlier)
  pub counted : b.ordinal ≡ given earlier
  pub recent : given later < 256
  pub not_dropped : Contains later Drop → ⊥
  pub not_lost : Contains later (Lose b.physical) → ⊥
  pub not_used : Contains later (Use (b.ordinal % 2 ^ 24)) → ⊥
