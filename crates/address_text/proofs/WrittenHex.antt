-- Identifiers and hardware addresses that are read are what is printed for their numbers.
use Rattle.std.proofs.Common.{◌≡◌, ℕ, ◌+◌, ◌-◌, ◌*◌, ◌/◌, ◌%◌, ◌^◌, ◌<◌, ◌≤◌, ◌==◌, ◌&&◌, Bool, true, false, cond, nat_le, eqb-true, List, [], ◌∷◌, ◌++◌, length, slice_index, Option, Some, None, refl, ap, ◌∙◌, arith}
use Rattle.std.proofs.lemmas.Bool.{and_parts, lt-ltb, le-ltb}
use Rattle.std.proofs.lemmas.Nat.{shr-shr}
use Rattle.std.proofs.lemmas.Option.{same_Some}
use Rattle.of10_model.proofs.Ranges.{between}
use Rattle.address_text.specs.Addresses.{hex_digit, hex_after, datapath_id, pair_at, has_colons, six_pairs, hardware_address}
use Rattle.address_text.specs.Texts.{hex_glyph, hex_text, pair_text, hardware_text}
use Rattle.address_text.specs.Written.{HardwareAddressesAreAsWritten, DatapathIdsAreAsWritten}
use Rattle.address_text.proofs.Ranges.{bind_some, map_some, hex_digit_below, six_pairs_read}
use Rattle.address_text.proofs.Printed.{datapath_back, hardware_back}

-- ---- digits

glyph_cases : (low high : Bool) (c n : ℕ) → (low ≡ true → (48 ≤ c) × (c ≤ 57)) → (high ≡ true → (97 ≤ c) × (c ≤ 102)) → cond low (Some (c - 48)) (cond high (Some (c - 87)) None) ≡ Some n → c ≡ hex_glyph n
glyph_cases true high c n is_low is_high e =
    let same : c - 48 ≡ n = same_Some (c - 48) n e in
    let (from, to) = is_low refl in
    rw (lt-ltb n 10 (omega (arith, same, from, to))) (omega (arith, same, from, to))
glyph_cases false true c n is_low is_high e =
    let same : c - 87 ≡ n = same_Some (c - 87) n e in
    let (from, to) = is_high refl in
    rw (le-ltb n 10 (omega (arith, same, from, to))) (omega (arith, same, from, to))
glyph_cases false false c n is_low is_high e = absurd cc

glyph_is : (c n : ℕ) → hex_digit c ≡ Some n → c ≡ hex_glyph n
glyph_is c n e = glyph_cases (nat_le 48 c && nat_le c 57) (nat_le 97 c && nat_le c 102) c n (between 48 57 c) (between 97 102 c) e

when_is : {A : Type 0} (b : Bool) (o : Option A) (x : A) → cond b o None ≡ Some x → (b ≡ true) × (o ≡ Some x)
when_is true o x e = (refl, e)
when_is false o x e = absurd cc

-- ---- datapath ids

same_cons : (a b : ℕ) (xs ys : List ℕ) → a ≡ b → xs ≡ ys → ◌≡◌ {A = List ℕ} (a ∷ xs) (b ∷ ys)
same_cons a b xs ys e h = rw (e, h) refl

-- the digits are the last of the number, and the rest of it came before them
hex_written : (text : List ℕ) (m n : ℕ) → hex_after m text ≡ Some n → (text ≡ hex_text (length text) n) × (n / 2 ^ (4 * length text) ≡ m)
unfolding hex_text
hex_written [] m n e = let same = same_Some m n e in (refl, omega (arith, same))
hex_written (c ∷ rest) m n e =
    let a = bind_some (hex_digit c) (λ digit. hex_after (m * 16 + digit) rest) n e in
    let digit = hex_digit_below c a.0 a.1 in
    let more = hex_written rest (m * 16 + a.0) n a.2 in
    let k = length rest in
    let last : n / 2 ^ (4 * k) % 16 ≡ a.0 = rw more.1 (omega (arith, digit)) in
    let four : 4 * length (c ∷ rest) ≡ 4 * k + 4 = omega arith in
    let before : n / 2 ^ (4 * k) / 2 ^ 4 ≡ m = rw more.1 (omega (arith, digit)) in
    (same_cons c (hex_glyph (n / 2 ^ (4 * k) % 16)) rest (hex_text k n) (rw last (glyph_is c a.0 a.1)) more.0, rw (four, ← shr-shr n (4 * k) 4) before)

datapath_written : (text : List ℕ) (n : ℕ) → datapath_id text ≡ Some n → (n < 2 ^ 64) × (text ≡ hex_text 16 n)
unfolding datapath_id
datapath_written text n e =
    let a = when_is (length text == 16) (hex_after 0 text) n e in
    let sixteen : length text ≡ 16 = eqb-true (length text) 16 a.0 in
    let w = hex_written text 0 n a.1 in
    let high : n / 2 ^ (4 * 16) ≡ 0 = rw sixteen at w.1 in
    (omega (arith, high), w.0 ∙ ap (λ k. hex_text k n) sixteen)

pub datapath_ids : DatapathIdsAreAsWritten
datapath_ids text n = (datapath_written text n, λ h. ap datapath_id h.1 ∙ datapath_back n h.0)

-- ---- hardware addresses

-- a number below 256 whose two hex digits stand at a place
record IsPairAt (text : List ℕ) (at n : ℕ) : Type 0 where
  pub high : slice_index text at ≡ hex_glyph (n / 16 % 16)
  pub low : slice_index text (at + 1) ≡ hex_glyph (n % 16)
  pub below : n < 256

pair_written : (text : List ℕ) (at n : ℕ) → pair_at text at ≡ Some n → IsPairAt text at n
pair_written text at n e =
    let a = bind_some (hex_digit (slice_index text at)) _ n e in
    let b = map_some (λ low. a.0 * 16 + low) (hex_digit (slice_index text (at + 1))) n a.2 in
    let high_below = hex_digit_below (slice_index text at) a.0 a.1 in
    let low_below = hex_digit_below (slice_index text (at + 1)) b.0 b.1 in
    let whole : a.0 * 16 + b.0 ≡ n = b.2 in
    let high : n / 16 % 16 ≡ a.0 = omega (arith, high_below, low_below, whole) in
    let low : n % 16 ≡ b.0 = omega (arith, high_below, low_below, whole) in
    record { high = rw high (glyph_is _ a.0 a.1); low = rw low (glyph_is _ b.0 b.1); below = omega (arith, high_below, low_below, whole) }

-- a text of 17 bytes, byte by byte
seventeen : (text : List ℕ) → length text ≡ 17 → text ≡ slice_index text 0 ∷ slice_index text 1 ∷ slice_index text 2 ∷ slice_index text 3 ∷ slice_index text 4 ∷ slice_index text 5 ∷ slice_index text 6 ∷ slice_index text 7 ∷ slice_index text 8 ∷ slice_index text 9 ∷ slice_index text 10 ∷ slice_index text 11 ∷ slice_index text 12 ∷ slice_index text 13 ∷ slice_index text 14 ∷ slice_index text 15 ∷ slice_index text 16 ∷ []
seventeen (b0 ∷ b1 ∷ b2 ∷ b3 ∷ b4 ∷ b5 ∷ b6 ∷ b7 ∷ b8 ∷ b9 ∷ b10 ∷ b11 ∷ b12 ∷ b13 ∷ b14 ∷ b15 ∷ b16 ∷ []) e = refl
seventeen other e = absurd (omega (arith, e))

-- six pairs and the colons between them make the text
abbrev six_text : ℕ → ℕ → ℕ → ℕ → ℕ → ℕ → List ℕ
six_text a b c d f g = pair_text a ++ (58 ∷ pair_text b ++ (58 ∷ pair_text c ++ (58 ∷ pair_text d ++ (58 ∷ pair_text f ++ (58 ∷ pair_text g)))))

spelled : (text : List ℕ) (a b c d f g : ℕ) → length text ≡ 17 → slice_index text 2 ≡ 58 → slice_index text 5 ≡ 58 → slice_index text 8 ≡ 58 → slice_index text 11 ≡ 58 → slice_index text 14 ≡ 58
    → IsPairAt text 0 a → IsPairAt text 3 b → IsPairAt text 6 c → IsPairAt text 9 d → IsPairAt text 12 f → IsPairAt text 15 g → text ≡ six_text a b c d f g
spelled text a b c d f g len c2 c5 c8 c11 c14 pa pb pc pd pf pg =
    seventeen text len ∙ rw (pa.high, pa.low, c2, pb.high, pb.low, c5, pc.high, pc.low, c8, pd.high, pd.low, c11, pf.high, pf.low, c14, pg.high, pg.low) refl

-- the pairs are those of the number that they make
numbered : (a b c d f g n : ℕ) → a < 256 → b < 256 → c < 256 → d < 256 → f < 256 → g < 256 → ((((a * 256 + b) * 256 + c) * 256 + d) * 256 + f) * 256 + g ≡ n → six_text a b c d f g ≡ hardware_text n
unfolding hardware_text
numbered a b c d f g n ha hb hc hd hf hg same =
    let na : n / 2 ^ 40 % 256 ≡ a = omega (arith, ha, hb, hc, hd, hf, hg, same) in
    let nb : n / 2 ^ 32 % 256 ≡ b = omega (arith, ha, hb, hc, hd, hf, hg, same) in
    let nc : n / 2 ^ 24 % 256 ≡ c = omega (arith, ha, hb, hc, hd, hf, hg, same) in
    let nd : n / 2 ^ 16 % 256 ≡ d = omega (arith, ha, hb, hc, hd, hf, hg, same) in
    let nf : n / 2 ^ 8 % 256 ≡ f = omega (arith, ha, hb, hc, hd, hf, hg, same) in
    let ng : n % 256 ≡ g = omega (arith, ha, hb, hc, hd, hf, hg, same) in
    rw (na, nb, nc, nd, nf, ng) refl

hardware_written : (text : List ℕ) (n : ℕ) → hardware_address text ≡ Some n → (n < 2 ^ 48) × (text ≡ hardware_text n)
hardware_written text n e =
    let whole = when_is (has_colons text) (six_pairs text) n e in
    let s = λ (i : ℕ). slice_index text i == 58 in
    let c14 = and_parts (length text == 17 && s 2 && s 5 && s 8 && s 11) (s 14) whole.0 in
    let c11 = and_parts (length text == 17 && s 2 && s 5 && s 8) (s 11) c14.0 in
    let c8 = and_parts (length text == 17 && s 2 && s 5) (s 8) c11.0 in
    let c5 = and_parts (length text == 17 && s 2) (s 5) c8.0 in
    let c2 = and_parts (length text == 17) (s 2) c5.0 in
    let p = six_pairs_read text n whole.1 in
    let pa = pair_written text 0 p.first p.first_is in
    let pb = pair_written text 3 p.second p.second_is in
    let pc = pair_written text 6 p.third p.third_is in
    let pd = pair_written text 9 p.fourth p.fourth_is in
    let pf = pair_written text 12 p.fifth p.fifth_is in
    let pg = pair_written text 15 p.sixth p.sixth_is in
    let bytes = spelled text p.first p.second p.third p.fourth p.fifth p.sixth (eqb-true _ _ c2.0) (eqb-true _ _ c2.1) (eqb-true _ _ c5.1) (eqb-true _ _ c8.1) (eqb-true _ _ c11.1) (eqb-true _ _ c14.1) pa pb pc pd pf pg in (
      omega (arith, pa.below, pb.below, pc.below, pd.below, pf.below, pg.below, p.whole),
      bytes ∙ numbered p.first p.second p.third p.fourth p.fifth p.sixth n pa.below pb.below pc.below pd.below pf.below pg.below p.whole,
    )

pub hardware_addresses : HardwareAddressesAreAsWritten
hardware_addresses text n = (hardware_written text n, λ h. ap hardware_address h.1 ∙ hardware_back n h.0)
