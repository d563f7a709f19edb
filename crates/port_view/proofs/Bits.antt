-- One bit of a number.
use Rattle.std.proofs.Common.{◌≡◌, ℕ, ◌+◌, ◌*◌, ◌/◌, ◌%◌, ◌^◌, ◌==◌, not, sym, ap, ◌∙◌, arith}
use Rattle.std.specs.Int.Bits.{bit_and, and_zero_r}
use Rattle.std.proofs.lemmas.Nat.{and_block}
use Rattle.std.proofs.lemmas.Nat.Bits.{shr_and_one}
use Rattle.std.proofs.lemmas.Bool.Decides.{nat_tests}
use Rattle.of10_model.specs.Normal.{bit}

fifth_bit : (word : ℕ) → bit_and word 16 ≡ word / 2 ^ 4 % 2 * 16
fifth_bit word =
    let parts : word / 16 * 2 ^ 4 + word % 16 ≡ word = omega arith in
    let none = and_zero_r (word % 16) in
    let one = shr_and_one word 4 in
    ap (λ (n : ℕ). bit_and n 16) (sym parts) ∙ and_block 4 (word / 16) 1 (word % 16) 0 (omega arith) (omega arith) ∙ omega (arith, none, one)

pub tests_fifth_bit : (word : ℕ) → not (bit_and word 16 == 0) ≡ bit word 4
tests_fifth_bit word = let is = fifth_bit word in grind (arith, nat_tests, is)
