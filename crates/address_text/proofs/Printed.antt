-- Identifiers and addresses that are printed are read again.
use Rattle.std.proofs.Common.{◌≡◌, ℕ, zero, suc, ◌+◌, ◌-◌, ◌*◌, ◌/◌, ◌%◌, ◌^◌, ◌<◌, ◌≤◌, ◌==◌, ◌&&◌, Bool, true, false, cond, nat_le, le-leb, eqb-true, List, [], ◌∷◌, ◌++◌, length, slice_index, Option, Some, None, decimal, refl, sym, ap, subst, ◌∙◌, inl, inr, arith, append_assoc}
use Rattle.std.proofs.Math.Nat.{add-mul, mul_assoc, mod-add-div'}
use Rattle.std.proofs.lemmas.Nat.{pow-add, mod-pow-add}
use Rattle.std.proofs.lemmas.Bool.{cases_Bool, cases_lt, lt-ltb, le-ltb}
use Rattle.std.proofs.lemmas.Bool.Decides.{nat_tests}
use Rattle.std.proofs.lemmas.Fmt.{decimal_digit, decimal_step}
use Rattle.std.proofs.lemmas.List.{append-nil}
use Rattle.of10_model.specs.declared.pattern.Prefix.{Prefix}
use Rattle.of10_model.specs.Normal.{IsPrefix}
use Rattle.of10_model.specs.Meet.{◌>>=◌}
use Rattle.of10_model.specs.Pattern.{leading_bits}
use Rattle.address_text.specs.Addresses.{hex_digit, hex_after, datapath_id, pair_at, six_pairs, hardware_address, digit_at, with_digit, digits_at, octet_of, octet_at, dotted_at, bits_after, prefix}
use Rattle.address_text.specs.Texts.{hex_glyph, hex_text, hardware_text, dotted_text, prefix_text}

-- ---- hex

glyph_low : (x : ℕ) → x < 10 → hex_digit (48 + x) ≡ Some x
glyph_low x lt = rw (le-leb 48 (48 + x) (omega arith), le-leb (48 + x) 57 (omega arith)) (ap Some (let same : 48 + x - 48 ≡ x = omega arith in same))

glyph_high : (x : ℕ) → 10 ≤ x → x < 16 → hex_digit (87 + x) ≡ Some x
glyph_high x low lt =
    let not_digit : (nat_le 48 (87 + x) && nat_le (87 + x) 57) ≡ false = grind (arith, nat_tests) in
    rw (not_digit, le-leb 97 (87 + x) (omega arith), le-leb (87 + x) 102 (omega arith)) (ap Some (let same : 87 + x - 87 ≡ x = omega arith in same))

glyph_back : (x : ℕ) → x < 16 → hex_digit (hex_glyph x) ≡ Some x
glyph_back x lt =
    elim (cases_lt x 10) [
      | inl low ↦ rw (lt-ltb x 10 low) (glyph_low x low)
      | inr high ↦ rw (le-ltb x 10 high) (glyph_high x high lt)
    ]

hex_back : (k m n : ℕ) → hex_after m (hex_text k n) ≡ Some (m * 2 ^ (4 * k) + n % 2 ^ (4 * k))
unfolding hex_text
hex_back zero m n = ap Some (let same : m ≡ m * 1 + n % 1 = omega arith in same)
hex_back (suc k) m n =
    let p = 2 ^ (4 * k) in
    let d = n / p % 16 in
    let four : 4 * suc k ≡ 4 + 4 * k = omega arith in
    let more : 2 ^ (4 + 4 * k) ≡ 16 * p = pow-add 2 4 (4 * k) in
    let last : n % 2 ^ (4 + 4 * k) ≡ d * p + n % p = mod-pow-add n 4 (4 * k) in
    let same : (m * 16 + d) * p + n % p ≡ m * 2 ^ (4 * suc k) + n % 2 ^ (4 * suc k) = rw (four, last, more) (omega (arith, add-mul (m * 16) d p, mul_assoc m 16 p)) in
    rw (glyph_back d (omega arith)) (hex_back k (m * 16 + d) n ∙ ap Some same)

length_hex : (k n : ℕ) → length (hex_text k n) ≡ k
unfolding hex_text
length_hex zero n = refl
length_hex (suc k) n = ap suc (length_hex k n)

pub datapath_back : (n : ℕ) → n < 2 ^ 64 → datapath_id (hex_text 16 n) ≡ Some n
unfolding datapath_id
datapath_back n lt = rw (length_hex 16 n) (hex_back 16 0 n ∙ ap Some (let same : 0 * 2 ^ 64 + n % 2 ^ 64 ≡ n = omega (arith, lt) in same))

pair_back : (text : List ℕ) (at x : ℕ) → slice_index text at ≡ hex_glyph (x / 16 % 16) → slice_index text (at + 1) ≡ hex_glyph (x % 16) → x < 256 → pair_at text at ≡ Some x
pair_back text at x high low lt =
    rw (high, low, glyph_back (x / 16 % 16) (omega arith), glyph_back (x % 16) (omega arith)) (ap Some (let same : x / 16 % 16 * 16 + x % 16 ≡ x = omega (arith, lt) in same))

pub hardware_back : (n : ℕ) → n < 2 ^ 48 → hardware_address (hardware_text n) ≡ Some n
unfolding hardware_text six_pairs
hardware_back n lt =
    let text = hardware_text n in
    rw (
      pair_back text 0 (n / 2 ^ 40 % 256) refl refl (omega arith),
      pair_back text 3 (n / 2 ^ 32 % 256) refl refl (omega arith),
      pair_back text 6 (n / 2 ^ 24 % 256) refl refl (omega arith),
      pair_back text 9 (n / 2 ^ 16 % 256) refl refl (omega arith),
      pair_back text 12 (n / 2 ^ 8 % 256) refl refl (omega arith),
      pair_back text 15 (n % 256) refl refl (omega arith),
    )
    (ap Some (let same : ((((n / 2 ^ 40 % 256 * 256 + n / 2 ^ 32 % 256) * 256 + n / 2 ^ 24 % 256) * 256 + n / 2 ^ 16 % 256) * 256 + n / 2 ^ 8 % 256) * 256 + n % 256 ≡ n = omega (arith, lt) in same))

-- ---- decimal

digit_back : (x : ℕ) (rest : List ℕ) → x < 10 → digit_at ((48 + x) ∷ rest) ≡ Some (x, rest)
digit_back x rest lt =
    rw (le-leb 48 (48 + x) (omega arith), le-leb (48 + x) 57 (omega arith)) (ap (λ (y : ℕ). Some (y, rest)) (let same : 48 + x - 48 ≡ x = omega arith in same))

stops : (n : ℕ) (rest : List ℕ) → digit_at rest ≡ None → with_digit (n, rest) ≡ (n, rest)
stops n rest none = rw none refl

goes_on : (n x : ℕ) (rest : List ℕ) → x < 10 → with_digit (n, (48 + x) ∷ rest) ≡ (n * 10 + x, rest)
goes_on n x rest lt = rw (digit_back x rest lt) refl

is_octet : (n : ℕ) (rest : List ℕ) → n ≤ 255 → octet_of (n, rest) ≡ Some (n, rest)
is_octet n rest le = rw (le-leb n 255 le) refl

-- one, two and three digits
one_digit : (x : ℕ) (rest : List ℕ) → x < 10 → digit_at rest ≡ None → digits_at ((48 + x) ∷ rest) ≡ Some (x, rest)
one_digit x rest lt none =
    elim (cases_Bool (x == 0)) [
      | inl zero_first ↦ rw (digit_back x rest lt, zero_first) refl
      | inr other ↦ rw (digit_back x rest lt, other) (ap Some (ap with_digit (stops x rest none) ∙ stops x rest none))
    ]

two_digits : (x y : ℕ) (rest : List ℕ) → 0 < x → x < 10 → y < 10 → digit_at rest ≡ None → digits_at ((48 + x) ∷ (48 + y) ∷ rest) ≡ Some (x * 10 + y, rest)
two_digits x y rest some lt lt' none =
    let other : (x == 0) ≡ false = grind (arith, nat_tests) in
    rw (digit_back x ((48 + y) ∷ rest) lt, other) (ap Some (ap with_digit (goes_on x y rest lt') ∙ stops (x * 10 + y) rest none))

three_digits : (x y z : ℕ) (rest : List ℕ) → 0 < x → x < 10 → y < 10 → z < 10 → digits_at ((48 + x) ∷ (48 + y) ∷ (48 + z) ∷ rest) ≡ Some ((x * 10 + y) * 10 + z, rest)
three_digits x y z rest some lt lt' lt'' =
    let other : (x == 0) ≡ false = grind (arith, nat_tests) in
    rw (digit_back x ((48 + y) ∷ (48 + z) ∷ rest) lt, other) (ap Some (ap with_digit (goes_on x y ((48 + z) ∷ rest) lt') ∙ goes_on (x * 10 + y) z rest lt''))

digits_back : (n : ℕ) (rest : List ℕ) → n < 256 → digit_at rest ≡ None → digits_at (decimal n ++ rest) ≡ Some (n, rest)
digits_back n rest lt none =
    elim (cases_lt n 10) [
      | inl one ↦ rw (decimal_digit n one) (one_digit n rest one none)
      | inr more ↦ elim (cases_lt n 100) [
        | inl two ↦
            let same : n / 10 * 10 + n % 10 ≡ n = omega arith in
            let text : decimal n ≡ (48 + n / 10) ∷ (48 + n % 10) ∷ [] = rw (decimal_step n more (omega arith), decimal_digit (n / 10) (omega arith)) refl in
            rw text (two_digits (n / 10) (n % 10) rest (omega arith) (omega arith) (omega arith) none ∙ ap (λ (x : ℕ). Some (x, rest)) same)
        | inr three ↦
            let same : (n / 10 / 10 * 10 + n / 10 % 10) * 10 + n % 10 ≡ n = omega arith in
            let text : decimal n ≡ (48 + n / 10 / 10) ∷ (48 + n / 10 % 10) ∷ (48 + n % 10) ∷ [] = rw (decimal_step n more (omega arith), decimal_step (n / 10) (omega arith) (omega arith), decimal_digit (n / 10 / 10) (omega arith)) refl in
            rw text (three_digits (n / 10 / 10) (n / 10 % 10) (n % 10) rest (omega arith) (omega arith) (omega arith) (omega arith) ∙ ap (λ (x : ℕ). Some (x, rest)) same)
      ]
    ]

octet_back : (n : ℕ) (rest : List ℕ) → n < 256 → digit_at rest ≡ None → octet_at (decimal n ++ rest) ≡ Some (n, rest)
unfolding octet_at
octet_back n rest lt none = ap (λ o. o >>= octet_of) (digits_back n rest lt none) ∙ is_octet n rest (omega arith)

-- a step of a reading
pub steps : {A B : Type 0} (o : Option A) (f : A → Option B) (x : A) (r : Option B) → o ≡ Some x → f x ≡ r → (o >>= f) ≡ r
steps o f x r e h = ap (λ q. q >>= f) e ∙ h

pub dotted_back : (n : ℕ) (rest : List ℕ) → n < 2 ^ 32 → digit_at rest ≡ None → dotted_at (dotted_text n ++ rest) ≡ Some (n, rest)
unfolding dotted_at
dotted_back n rest lt none =
    let a = n / 2 ^ 24 % 256 in
    let b = n / 2 ^ 16 % 256 in
    let c = n / 2 ^ 8 % 256 in
    let d = n % 256 in
    let r3 = 46 ∷ (decimal d ++ rest) in
    let r2 = 46 ∷ (decimal c ++ r3) in
    let r1 = 46 ∷ (decimal b ++ r2) in
    let text : dotted_text n ++ rest ≡ decimal a ++ r1 = simp append_assoc refl in
    let same : ((a * 256 + b) * 256 + c) * 256 + d ≡ n = omega (arith, lt) in
    rw text
    (steps (octet_at (decimal a ++ r1)) _ (a, r1) (Some (n, rest)) (octet_back a r1 (omega arith) refl)
    (steps (octet_at (decimal b ++ r2)) _ (b, r2) (Some (n, rest)) (octet_back b r2 (omega arith) refl)
    (steps (octet_at (decimal c ++ r3)) _ (c, r3) (Some (n, rest)) (octet_back c r3 (omega arith) refl)
    (steps (octet_at (decimal d ++ rest)) _ (d, rest) (Some (n, rest)) (octet_back d rest (omega arith) none)
    (ap (λ (x : ℕ). Some (x, rest)) same)))))

cut_same : (value k : ℕ) → value % 2 ^ k ≡ 0 → value / 2 ^ k * 2 ^ k ≡ value
cut_same value k low = let whole = mod-add-div' value (2 ^ k) in omega (arith, whole, low)

pub bits_back : (bits : ℕ) → 1 ≤ bits → bits ≤ 32 → bits_after (47 ∷ decimal bits) ≡ Some bits
bits_back bits some few =
    let read : octet_at (decimal bits) ≡ Some (bits, []) = ap octet_at (sym (append-nil (decimal bits))) ∙ octet_back bits [] (omega arith) refl in
    rw read (rw (le-leb 1 bits some, le-leb bits 32 few) refl)

same_prefix : (p : Prefix) (value : ℕ) → value ≡ p.value → (let q : Prefix = record { bits = p.bits; value = value } in q) ≡ p
same_prefix p value e = rw e refl

abbrev made : ℕ → ℕ → Prefix
made bits value = record { bits = bits; value = value }

whole_prefix : (p : Prefix) → p.bits ≡ 32 → leading_bits p.value 32 ≡ p
whole_prefix p all =
    let same : p.value / 1 * 1 ≡ p.value = omega arith in
    ap (made 32) same ∙ subst (λ b. made b p.value ≡ p) all refl

prefix_cases : (p : Prefix) (whole : Bool) → (p.bits == 32) ≡ whole → IsPrefix (Some p) → prefix (dotted_text p.value ++ cond whole [] (47 ∷ decimal p.bits)) ≡ Some p
unfolding prefix
prefix_cases p true e range =
    let (some, few, small, low) = range in
    let all : p.bits ≡ 32 = eqb-true p.bits 32 e in
    steps (dotted_at (dotted_text p.value ++ [])) _ (p.value, []) _ (dotted_back p.value [] small refl)
    (ap Some (whole_prefix p all))
prefix_cases p false e range =
    let (some, few, small, low) = range in
    let rest = 47 ∷ decimal p.bits in
    steps (dotted_at (dotted_text p.value ++ rest)) _ (p.value, rest) _ (dotted_back p.value rest small refl)
    (rw (bits_back p.bits some few) (ap Some (same_prefix p _ (cut_same p.value (32 - p.bits) low))))

pub prefix_back : (p : Prefix) → IsPrefix (Some p) → prefix (prefix_text p) ≡ Some p
unfolding prefix_text
prefix_back p range = prefix_cases p (p.bits == 32) refl range
