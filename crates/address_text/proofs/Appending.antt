-- Hex digits that are written one after the other.
use Rattle.std.proofs.Common.{◌≡◌, ℕ, zero, suc, ◌*◌, ◌-◌, ◌/◌, ◌%◌, ◌^◌, ◌<◌, ◌∷◌, refl, arith}
use Rattle.address_text.specs.Texts.{hex_glyph, hex_text}

-- the next hex digit
pub hex_more : (k n : ℕ) → 0 < k → hex_text k n ≡ hex_glyph (n / 2 ^ (4 * (k - 1)) % 16) ∷ hex_text (k - 1) n
unfolding hex_text
hex_more zero n some = absurd (omega arith)
hex_more (suc k) n some = let less : suc k - 1 ≡ k = omega arith in rw less refl
