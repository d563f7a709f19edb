-- Addresses that are written in a text lie in their ranges.
use Rattle.std.proofs.Common.{◌≡◌, ℕ, ◌+◌, ◌-◌, ◌*◌, ◌^◌, ◌<◌, ◌≤◌, ◌==◌, ◌&&◌, Bool, true, false, cond, nat_le, leb-true, List, [], ◌∷◌, length, slice_index, Option, Some, None, option_map, refl, ap, subst, arith}
use Rattle.std.proofs.lemmas.Bool.{and_parts}
use Rattle.std.proofs.lemmas.Option.{same_Some, cond_some}
use Rattle.of10_model.specs.declared.pattern.Prefix.{Prefix}
use Rattle.of10_model.specs.Normal.{IsPrefix}
use Rattle.of10_model.specs.Meet.{◌>>=◌}
use Rattle.of10_model.specs.Pattern.{leading_bits}
use Rattle.of10_model.proofs.Ranges.{IsPrefix-leading}
use Rattle.address_text.specs.Addresses.{hex_digit, pair_at, has_colons, six_pairs, hardware_address, digits_at, octet_of, octet_at, behind_byte, dotted_at, prefix_length, bits_after, prefix}

pub bind_some : {A B : Type 0} (o : Option A) (f : A → Option B) (y : B) → (o >>= f) ≡ Some y → (x : A) × (o ≡ Some x) × (f x ≡ Some y)
bind_some None f y e = absurd cc
bind_some (Some x) f y e = (x, refl, e)

pub map_some : {A B : Type 0} (f : A → B) (o : Option A) (y : B) → option_map f o ≡ Some y → (x : A) × (o ≡ Some x) × (f x ≡ y)
map_some f None y e = absurd cc
map_some f (Some x) y e = (x, refl, cc)

-- ---- hex

digit_cases : (low high : Bool) (c n : ℕ) → (low ≡ true → c ≤ 57) → (high ≡ true → c ≤ 102) → cond low (Some (c - 48)) (cond high (Some (c - 87)) None) ≡ Some n → n < 16
digit_cases true high c n is_low is_high e = let same : c - 48 ≡ n = cc in omega (arith, is_low refl, same)
digit_cases false true c n is_low is_high e = let same : c - 87 ≡ n = cc in omega (arith, is_high refl, same)
digit_cases false false c n is_low is_high e = absurd cc

pub hex_digit_below : (c n : ℕ) → hex_digit c ≡ Some n → n < 16
hex_digit_below c n e =
    digit_cases (nat_le 48 c && nat_le c 57) (nat_le 97 c && nat_le c 102) c n
    (λ h. leb-true _ _ (and_parts (nat_le 48 c) (nat_le c 57) h).1)
    (λ h. leb-true _ _ (and_parts (nat_le 97 c) (nat_le c 102) h).1)
    e

pair_below : (text : List ℕ) (at n : ℕ) → pair_at text at ≡ Some n → n < 256
pair_below text at n e =
    let a = bind_some (hex_digit (slice_index text at)) _ n e in
    let b = map_some (λ low. a.0 * 16 + low) (hex_digit (slice_index text (at + 1))) n a.2 in
    omega (arith, hex_digit_below (slice_index text at) a.0 a.1, hex_digit_below (slice_index text (at + 1)) b.0 b.1, b.2)

-- six numbers, each of two digits at its place, make a number
pub record IsOfPairs (text : List ℕ) (n : ℕ) : Type 0 where
  pub first : ℕ
  pub second : ℕ
  pub third : ℕ
  pub fourth : ℕ
  pub fifth : ℕ
  pub sixth : ℕ
  pub first_is : pair_at text 0 ≡ Some first
  pub second_is : pair_at text 3 ≡ Some second
  pub third_is : pair_at text 6 ≡ Some third
  pub fourth_is : pair_at text 9 ≡ Some fourth
  pub fifth_is : pair_at text 12 ≡ Some fifth
  pub sixth_is : pair_at text 15 ≡ Some sixth
  pub whole : ((((first * 256 + second) * 256 + third) * 256 + fourth) * 256 + fifth) * 256 + sixth ≡ n

pub six_pairs_read : (text : List ℕ) (n : ℕ) → six_pairs text ≡ Some n → IsOfPairs text n
unfolding six_pairs
six_pairs_read text n e =
    let a = bind_some (pair_at text 0) _ n e in
    let b = bind_some (pair_at text 3) _ n a.2 in
    let c = bind_some (pair_at text 6) _ n b.2 in
    let d = bind_some (pair_at text 9) _ n c.2 in
    let f = bind_some (pair_at text 12) _ n d.2 in
    let g = bind_some (pair_at text 15) _ n f.2 in
    record {
      first = a.0;
      second = b.0;
      third = c.0;
      fourth = d.0;
      fifth = f.0;
      sixth = g.0;
      first_is = a.1;
      second_is = b.1;
      third_is = c.1;
      fourth_is = d.1;
      fifth_is = f.1;
      sixth_is = g.1;
      whole = same_Some (((((a.0 * 256 + b.0) * 256 + c.0) * 256 + d.0) * 256 + f.0) * 256 + g.0) n g.2;
    }

six_pairs_below : (text : List ℕ) (n : ℕ) → six_pairs text ≡ Some n → n < 2 ^ 48
six_pairs_below text n e =
    let p = six_pairs_read text n e in
    let pairs : (at k : ℕ) → pair_at text at ≡ Some k → k < 256 = pair_below text in
    omega (arith, pairs 0 p.first p.first_is, pairs 3 p.second p.second_is, pairs 6 p.third p.third_is, pairs 9 p.fourth p.fourth_is, pairs 12 p.fifth p.fifth_is, pairs 15 p.sixth p.sixth_is, p.whole)

hardware_cases : (b : Bool) (text : List ℕ) (n : ℕ) → cond b (six_pairs text) None ≡ Some n → n < 2 ^ 48
hardware_cases true text n e = six_pairs_below text n e
hardware_cases false text n e = absurd cc

pub hardware_below : (text : List ℕ) (n : ℕ) → hardware_address text ≡ Some n → n < 2 ^ 48
hardware_below text n e = hardware_cases (has_colons text) text n e

-- ---- decimal

pub octet_below : (text : List ℕ) (n : ℕ × List ℕ) → octet_at text ≡ Some n → n.0 ≤ 255
unfolding octet_at
octet_below text n e =
    let a = bind_some (digits_at text) octet_of n e in
    let k = cond_some (nat_le a.0.0 255) a.0 n a.2 in
    subst (λ (m : ℕ × List ℕ). m.0 ≤ 255) k.1 (leb-true _ _ k.0)

-- four octets with dots between them make a number, and so much of the text is left; where each octet ends, and what follows its dot
pub record IsOfOctets (text : List ℕ) (n : ℕ × List ℕ) : Type 0 where
  pub first : ℕ × List ℕ
  pub behind_first : List ℕ
  pub second : ℕ × List ℕ
  pub behind_second : List ℕ
  pub third : ℕ × List ℕ
  pub behind_third : List ℕ
  pub fourth : ℕ × List ℕ
  pub first_is : octet_at text ≡ Some first
  pub first_dot : behind_byte 46 first.1 ≡ Some behind_first
  pub second_is : octet_at behind_first ≡ Some second
  pub second_dot : behind_byte 46 second.1 ≡ Some behind_second
  pub third_is : octet_at behind_second ≡ Some third
  pub third_dot : behind_byte 46 third.1 ≡ Some behind_third
  pub fourth_is : octet_at behind_third ≡ Some fourth
  pub whole : (((first.0 * 256 + second.0) * 256 + third.0) * 256 + fourth.0, fourth.1) ≡ n

pub octets_read : (text : List ℕ) (n : ℕ × List ℕ) → dotted_at text ≡ Some n → IsOfOctets text n
unfolding dotted_at
octets_read text n e =
    let a = bind_some (octet_at text) _ n e in
    let ra = bind_some (behind_byte 46 a.0.1) _ n a.2 in
    let b = bind_some (octet_at ra.0) _ n ra.2 in
    let rb = bind_some (behind_byte 46 b.0.1) _ n b.2 in
    let c = bind_some (octet_at rb.0) _ n rb.2 in
    let rc = bind_some (behind_byte 46 c.0.1) _ n c.2 in
    let d = bind_some (octet_at rc.0) _ n rc.2 in
    let made : ℕ × List ℕ = (((a.0.0 * 256 + b.0.0) * 256 + c.0.0) * 256 + d.0.0, d.0.1) in
    record {
      first = a.0;
      behind_first = ra.0;
      second = b.0;
      behind_second = rb.0;
      third = c.0;
      behind_third = rc.0;
      fourth = d.0;
      first_is = a.1;
      first_dot = ra.1;
      second_is = b.1;
      second_dot = rb.1;
      third_is = c.1;
      third_dot = rc.1;
      fourth_is = d.1;
      whole = same_Some made n d.2;
    }

pub dotted_below : (text : List ℕ) (n : ℕ × List ℕ) → dotted_at text ≡ Some n → n.0 < 2 ^ 32
dotted_below text n e =
    let o = octets_read text n e in
    let value : ((o.first.0 * 256 + o.second.0) * 256 + o.third.0) * 256 + o.fourth.0 ≡ n.0 = ap (λ (m : ℕ × List ℕ). m.0) o.whole in
    omega (arith, octet_below text o.first o.first_is, octet_below o.behind_first o.second o.second_is, octet_below o.behind_second o.third o.third_is, octet_below o.behind_third o.fourth o.fourth_is, value)

bits_of_range : (n : ℕ × List ℕ) (bits : ℕ) → prefix_length n ≡ Some bits → (1 ≤ bits) × (bits ≤ 32)
bits_of_range n bits e =
    let k = cond_some (nat_le 1 n.0 && nat_le n.0 32 && length n.1 == 0) n.0 bits e in
    let outer = and_parts (nat_le 1 n.0 && nat_le n.0 32) (length n.1 == 0) k.0 in
    let inner = and_parts (nat_le 1 n.0) (nat_le n.0 32) outer.0 in
    subst (λ m. (1 ≤ m) × (m ≤ 32)) k.1 (leb-true _ _ inner.0, leb-true _ _ inner.1)

pub bits_after_range : (text : List ℕ) (bits : ℕ) → bits_after text ≡ Some bits → (1 ≤ bits) × (bits ≤ 32)
bits_after_range [] bits e = let same : 32 ≡ bits = cc in subst (λ m. (1 ≤ m) × (m ≤ 32)) same (omega arith, omega arith)
bits_after_range (c ∷ rest) bits e =
    let a = bind_some (behind_byte 47 (c ∷ rest) >>= octet_at) prefix_length bits e in
    bits_of_range a.0 bits a.2

pub prefix_range : (text : List ℕ) (p : Prefix) → prefix text ≡ Some p → IsPrefix (Some p)
unfolding prefix
prefix_range text p e =
    let a = bind_some (dotted_at text) (λ address. option_map (leading_bits address.0) (bits_after address.1)) p e in
    let b = map_some (leading_bits a.0.0) (bits_after a.0.1) p a.2 in
    let range = bits_after_range a.0.1 b.0 b.1 in
    subst (λ q. IsPrefix (Some q)) b.2 (IsPrefix-leading a.0.0 b.0 (dotted_below text a.0 a.1) range.0 range.1)
