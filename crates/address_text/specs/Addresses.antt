-- Identifiers and addresses that texts name. The forms are this proxy's own rule.
use Rattle.std.specs.Prelude.{ℕ, ◌+◌, ◌-◌, ◌*◌, ◌==◌, ◌&&◌, nat_le, Bool, List, [], ◌∷◌, length, slice_index, Option, Some, None, option_map, if◌then◌else◌}
use Rattle.of10_model.specs.declared.pattern.Prefix.{Prefix}
use Rattle.of10_model.specs.Pattern.{leading_bits}
use Rattle.of10_model.specs.Meet.{◌>>=◌}

-- ---- hex

-- a digit 0 to 9 or a to f
abbrev pub hex_digit : ℕ → Option ℕ
hex_digit c = if nat_le 48 c && nat_le c 57 then Some (c - 48) else if nat_le 97 c && nat_le c 102 then Some (c - 87) else None

-- the number that hex digits write after those of a number
abbrev pub hex_after : ℕ → List ℕ → Option ℕ
hex_after n [] = Some n
hex_after n (c ∷ rest) = hex_digit c >>= (λ digit. hex_after (n * 16 + digit) rest)

-- a datapath id is 16 hex digits
unfoldable pub datapath_id : List ℕ → Option ℕ
datapath_id text = if length text == 16 then hex_after 0 text else None

-- the number of the two hex digits at a place
abbrev pub pair_at : List ℕ → ℕ → Option ℕ
pair_at text at = hex_digit (slice_index text at) >>= (λ high. option_map (λ low. high * 16 + low) (hex_digit (slice_index text (at + 1))))

-- 17 bytes have a colon after each pair but the last
abbrev pub has_colons : List ℕ → Bool
has_colons text =
    length text == 17 && slice_index text 2 == 58 && slice_index text 5 == 58 && slice_index text 8 == 58 && slice_index text 11 == 58
    && slice_index text 14 == 58

-- six pairs of hex digits with colons between them
unfoldable pub six_pairs : List ℕ → Option ℕ
six_pairs text = do
  a ← pair_at text 0
  b ← pair_at text 3
  c ← pair_at text 6
  d ← pair_at text 9
  e ← pair_at text 12
  f ← pair_at text 15
  Some (((((a * 256 + b) * 256 + c) * 256 + d) * 256 + e) * 256 + f)

-- a hardware address is written so
abbrev pub hardware_address : List ℕ → Option ℕ
hardware_address text = if has_colons text then six_pairs text else None

-- ---- decimal

-- the decimal digit at the front, and what follows it
abbrev pub digit_at : List ℕ → Option (ℕ × List ℕ)
digit_at [] = None
digit_at (c ∷ rest) = if nat_le 48 c && nat_le c 57 then Some (c - 48, rest) else None

-- a number with one more digit, where there is one
abbrev pub with_digit_in : ℕ × List ℕ → Option (ℕ × List ℕ) → ℕ × List ℕ
with_digit_in n None = n
with_digit_in n (Some digit) = (n.0 * 10 + digit.0, digit.1)

-- the number and the digit that follows it, where one does
abbrev pub with_digit : ℕ × List ℕ → ℕ × List ℕ
with_digit n = with_digit_in n (digit_at n.1)

-- the digit 0 at the front, or one to three digits of which the first is another
abbrev pub digits_at : List ℕ → Option (ℕ × List ℕ)
digits_at text = option_map (λ first. if first.0 == 0 then first else with_digit (with_digit first)) (digit_at text)

-- a number that was read, where it is below 256
abbrev pub octet_of : ℕ × List ℕ → Option (ℕ × List ℕ)
octet_of n = if nat_le n.0 255 then Some n else None

-- a number of one to three digits at the front, below 256
unfoldable pub octet_at : List ℕ → Option (ℕ × List ℕ)
octet_at text = digits_at text >>= octet_of

-- what follows a byte at the front
abbrev pub behind_byte : ℕ → List ℕ → Option (List ℕ)
behind_byte byte [] = None
behind_byte byte (c ∷ rest) = if c == byte then Some rest else None

-- four such numbers with dots between them
unfoldable pub dotted_at : List ℕ → Option (ℕ × List ℕ)
dotted_at text = do
  a ← octet_at text
  after_a ← behind_byte 46 a.1
  b ← octet_at after_a
  after_b ← behind_byte 46 b.1
  c ← octet_at after_b
  after_c ← behind_byte 46 c.1
  d ← octet_at after_c
  Some (((a.0 * 256 + b.0) * 256 + c.0) * 256 + d.0, d.1)

-- a number of leading bits, 1 to 32, and nothing else
abbrev pub prefix_length : ℕ × List ℕ → Option ℕ
prefix_length n = if nat_le 1 n.0 && nat_le n.0 32 && length n.1 == 0 then Some n.0 else None

-- the number of leading bits after a slash, or all 32
abbrev pub bits_after : List ℕ → Option ℕ
bits_after [] = Some 32
bits_after (c ∷ rest) = behind_byte 47 (c ∷ rest) >>= octet_at >>= prefix_length

-- a network address, or the addresses with its leading bits
unfoldable pub prefix : List ℕ → Option Prefix
prefix text = dotted_at text >>= (λ address. option_map (leading_bits address.0) (bits_after address.1))
