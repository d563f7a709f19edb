-- The readers of an outer and of an inner rule in one word.
use Rattle.std.proofs.Common.{◌≡◌, ℕ, suc, ◌+◌, ◌-◌, ◌*◌, ◌/◌, ◌%◌, ◌^◌, ◌<◌, ◌≤◌, ◌==◌, refl, sym, subst, ◌∙◌, ap, arith}
use Rattle.std.proofs.Math.Nat.{add-mul-div_right, add-mul-mod_self_right, mul_assoc, pow-suc}
use Rattle.std.proofs.lemmas.Nat.{pow-add, pow_pos, shr-shr, shr_split, shr_below, shr_high, mul-add-lt, mod_below}
use Rattle.of10_model.specs.Normal.{bit}

-- ---- how large they are

-- bits without the one at a place, those above it one place lower
pub without_below : (bits slot n : ℕ) → slot ≤ n → bits < 2 ^ (n + 1) → bits % 2 ^ slot + bits / 2 ^ (slot + 1) * 2 ^ slot < 2 ^ n
without_below bits slot n le lt =
    let same : n + 1 ≡ (n - slot) + (slot + 1) = omega arith in
    let high : bits / 2 ^ (slot + 1) < 2 ^ (n - slot) = shr_below bits (n - slot) (slot + 1) (subst (λ m. bits < 2 ^ m) same lt) in
    let low : bits % 2 ^ slot < 2 ^ slot = mod_below bits (2 ^ slot) (pow_pos slot) in
    let both : bits / 2 ^ (slot + 1) * 2 ^ slot + bits % 2 ^ slot < 2 ^ slot * 2 ^ (n - slot) = mul-add-lt (bits / 2 ^ (slot + 1)) (2 ^ slot) (bits % 2 ^ slot) (2 ^ (n - slot)) high low in
    let up : n ≡ slot + (n - slot) = omega arith in
    let whole : 2 ^ n ≡ 2 ^ slot * 2 ^ (n - slot) = ap (λ m. 2 ^ m) up ∙ pow-add 2 slot (n - slot) in
    omega arith

pub together_below : (low high n m : ℕ) → low < 2 ^ n → high < 2 ^ m → low + high * 2 ^ n < 2 ^ (n + m)
together_below low high n m small lt =
    let both : high * 2 ^ n + low < 2 ^ n * 2 ^ m = mul-add-lt high (2 ^ n) low (2 ^ m) lt small in
    let whole : 2 ^ (n + m) ≡ 2 ^ n * 2 ^ m = pow-add 2 n m in
    omega arith

-- ---- which bits they have

-- those of the high part
pub high_bit : (low high n k : ℕ) → low < 2 ^ n → bit (low + high * 2 ^ n) (n + k) ≡ bit high k
high_bit low high n k lt =
    let turned : low + high * 2 ^ n ≡ high * 2 ^ n + low = omega arith in
    ap (λ w. bit w (n + k)) turned
    ∙ ap (λ w. w % 2 == 1) (sym (shr-shr (high * 2 ^ n + low) n k))
    ∙ ap (λ w. bit w k) (shr_high high n low lt)

low_bits : (low high m k : ℕ) → bit (low + high * 2 ^ (suc m + k)) k ≡ bit low k
low_bits low high m k =
    rw (pow-add 2 (suc m) k, ← mul_assoc high (2 ^ suc m) (2 ^ k), add-mul-div_right low (high * 2 ^ suc m) (pow_pos k), pow-suc 2 m, ← mul_assoc high (2 ^ m) 2, add-mul-mod_self_right (low / 2 ^ k) (high * 2 ^ m) 2) refl

-- and those of the low part
low_bit : (low high n k : ℕ) → k < n → bit (low + high * 2 ^ n) k ≡ bit low k
low_bit low high n k lt =
    let same : n ≡ suc (n - suc k) + k = omega arith in
    ap (λ j. bit (low + high * 2 ^ j) k) same ∙ low_bits low high (n - suc k) k

-- without the bit at a place those below it stay
pub bit_before : (bits slot k : ℕ) → k < slot → bit (bits % 2 ^ slot + bits / 2 ^ (slot + 1) * 2 ^ slot) k ≡ bit bits k
bit_before bits slot k lt =
    let split : bits % 2 ^ slot + bits / 2 ^ slot * 2 ^ slot ≡ bits = omega (arith, shr_split bits slot) in
    low_bit (bits % 2 ^ slot) (bits / 2 ^ (slot + 1)) slot k lt
    ∙ sym (low_bit (bits % 2 ^ slot) (bits / 2 ^ slot) slot k lt)
    ∙ ap (λ w. bit w k) split

-- and those above it stand one place lower
pub bit_behind : (bits slot k : ℕ) → bit (bits % 2 ^ slot + bits / 2 ^ (slot + 1) * 2 ^ slot) (slot + k) ≡ bit bits (slot + 1 + k)
bit_behind bits slot k =
    high_bit (bits % 2 ^ slot) (bits / 2 ^ (slot + 1)) slot k (mod_below bits (2 ^ slot) (pow_pos slot))
    ∙ ap (λ w. w % 2 == 1) (shr-shr bits (slot + 1) k)
