-- The texts that are printed for identifiers and addresses. The forms are this proxy's own rule.
use Rattle.std.specs.Prelude.{ℕ, zero, suc, ◌+◌, ◌*◌, ◌/◌, ◌%◌, ◌^◌, ◌==◌, nat_lt, List, [], ◌∷◌, ◌++◌, decimal, if◌then◌else◌}
use Rattle.of10_model.specs.declared.pattern.Prefix.{Prefix}

-- a hex digit, in lower case
abbrev pub hex_glyph : ℕ → ℕ
hex_glyph n = if nat_lt n 10 then 48 + n else 87 + n

-- so many of a number's last hex digits
unfoldable pub hex_text : ℕ → ℕ → List ℕ
hex_text zero n = []
hex_text (suc k) n = hex_glyph (n / 2 ^ (4 * k) % 16) ∷ hex_text k n

-- two hex digits
abbrev pub pair_text : ℕ → List ℕ
pair_text n = hex_glyph (n / 16 % 16) ∷ hex_glyph (n % 16) ∷ []

-- six pairs of hex digits with colons between them
unfoldable pub hardware_text : ℕ → List ℕ
hardware_text n =
    pair_text (n / 2 ^ 40 % 256) ++ (58 ∷ pair_text (n / 2 ^ 32 % 256) ++ (58 ∷ pair_text (n / 2 ^ 24 % 256)
    ++ (58 ∷ pair_text (n / 2 ^ 16 % 256) ++ (58 ∷ pair_text (n / 2 ^ 8 % 256) ++ (58 ∷ pair_text (n % 256))))))

-- four octets with dots between them
abbrev pub dotted_text : ℕ → List ℕ
dotted_text n = decimal (n / 2 ^ 24 % 256) ++ (46 ∷ decimal (n / 2 ^ 16 % 256) ++ (46 ∷ decimal (n / 2 ^ 8 % 256) ++ (46 ∷ decimal (n % 256))))

-- an address, and how many of its leading bits count where that isn't all
unfoldable pub prefix_text : Prefix → List ℕ
prefix_text p = dotted_text p.value ++ (if p.bits == 32 then [] else 47 ∷ decimal p.bits)
