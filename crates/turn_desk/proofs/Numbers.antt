-- The numbers of a seat that is cut in two.
use Rattle.std.proofs.Common.{◌≡◌, ℕ, zero, suc, ◌+◌, ◌*◌, ◌<◌, ◌≤◌, ◌⊎◌, inl, inr, ⊎_elim, arith, mul-le-mul_right}

pub left_ahead : (n d i : ℕ) → n + suc i * (2 * d) ≡ n + suc (2 * i + 1) * d
left_ahead n d i = grind arith

pub right_ahead : (n d i : ℕ) → (n + d) + suc i * (2 * d) ≡ n + suc (2 * i + 2) * d
right_ahead n d i = grind arith

pub left_number : (n d i : ℕ) → n + i * (2 * d) ≡ n + (2 * i) * d
left_number n d i = grind arith

pub right_number : (n d j : ℕ) → (n + d) + j * (2 * d) ≡ n + (1 + 2 * j) * d
right_number n d j = grind arith

-- 2 i d is not (1 + 2 j) d
apart_products : (i j d : ℕ) → 0 < d → (2 * i) * d ≡ (1 + 2 * j) * d → (2 * i ≤ 2 * j) ⊎ (1 + 2 * j < 2 * i) → ⊥
apart_products i j d some e (inl h) = let p : (2 * i) * d ≤ (2 * j) * d = mul-le-mul_right d h in let q : (1 + 2 * j) * d ≡ (2 * j) * d + d = grind arith in omega arith
apart_products i j d some e (inr h) = let p : (suc (1 + 2 * j)) * d ≤ (2 * i) * d = mul-le-mul_right d h in let q : (suc (1 + 2 * j)) * d ≡ (1 + 2 * j) * d + d = grind arith in omega arith

even_or : (i j : ℕ) → (2 * i ≤ 2 * j) ⊎ (1 + 2 * j < 2 * i)
even_or zero j = inl (omega arith)
even_or (suc i) zero = inr (omega arith)
even_or (suc i) (suc j) = ⊎_elim (λ h. inl (omega arith)) (λ h. inr (omega arith)) (even_or i j)

pub never_one : (n d i j : ℕ) → 0 < d → n + i * (2 * d) ≡ (n + d) + j * (2 * d) → ⊥
never_one n d i j some e =
    let p = left_number n d i in
    let q = right_number n d j in
    let r : (2 * i) * d ≡ (1 + 2 * j) * d = omega arith in
    apart_products i j d some r (even_or i j)
