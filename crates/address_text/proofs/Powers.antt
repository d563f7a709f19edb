-- Hex digits one after the other stay within 64 bits.
use Rattle.std.proofs.Common.{ℕ, ◌+◌, ◌*◌, ◌^◌, ◌<◌, ◌≤◌, arith}
use Rattle.std.proofs.Math.Nat.{pow-le-pow_right}

pub within_word : (n i digit : ℕ) → i < 16 → n < 16 ^ i → digit < 16 → n * 16 + digit < 18446744073709551616
within_word n i digit few below small =
    let some : 0 < 16 = omega arith in
    let up : i ≤ 15 = omega arith in
    let most : 16 ^ i ≤ 16 ^ 15 = pow-le-pow_right some up in
    omega (arith, most)
