-- A map of buffers stands for one call more.
use Rattle.std.proofs.Common.{◌≡◌, ℕ, ◌+◌, not, List, ◌∷◌, refl}
use Rattle.std.specs.Prelude.{◌==◌, filter}
use Rattle.of10_model.specs.Header.{Header}
use Rattle.buffer_map.specs.declared.held.Held.{Held}
use Rattle.buffer_map.specs.Buffers.{BufferCall, Give, Lose, Use, numbered, is_recent, held, Buffers, BuffersStand}

pub BuffersStand-give : (old : Buffers) (calls : List BufferCall) (physical : ℕ) (header : Header) (ordinal : ℕ) (kept : List Held) → BuffersStand calls old
    → ordinal ≡ old.given → kept ≡ filter (is_recent (old.given + 1)) old.held
    → BuffersStand (Give physical header ∷ calls) (record { given = ordinal + 1; held = record { ordinal = ordinal; physical = physical; header = header } ∷ kept })
unfolding held
BuffersStand-give old calls physical header ordinal kept s same rest = record {
  same_given = rw (same, s.same_given) refl;
  same_held = rw (rest, same, s.same_given, s.same_held) refl;
}

pub BuffersStand-use : (old : Buffers) (calls : List BufferCall) (number : ℕ) (kept : List Held) → BuffersStand calls old
    → kept ≡ filter (λ b. not (numbered number b)) old.held → BuffersStand (Use number ∷ calls) (record { given = old.given; held = kept })
unfolding held
BuffersStand-use old calls number kept s rest = record { same_given = s.same_given; same_held = rw (rest, s.same_held) refl }

pub BuffersStand-lose : (old : Buffers) (calls : List BufferCall) (physical : ℕ) (kept : List Held) → BuffersStand calls old
    → kept ≡ filter (λ b. not (b.physical == physical)) old.held → BuffersStand (Lose physical ∷ calls) (record { given = old.given; held = kept })
unfolding held
BuffersStand-lose old calls physical kept s rest = record { same_given = s.same_given; same_held = rw (rest, s.same_held) refl }
