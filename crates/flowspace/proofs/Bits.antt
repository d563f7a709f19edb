-- Bits of a word of 32 bits.
use Rattle.std.proofs.Common.{◌≡◌, ℕ, ◌+◌, ◌*◌, ◌/◌, ◌%◌, ◌^◌, ◌<◌, ◌≤◌, ◌==◌, true, false, nat_lt, inl, inr, refl, arith}
use Rattle.std.proofs.lemmas.Bool.{lt-ltb, le-ltb, ne_eqb, cases_lt}
use Rattle.std.proofs.lemmas.Nat.{pow_pos, shr_split}
use Rattle.std.proofs.Math.Pow.{pow_mono}
use Rattle.std.proofs.Math.Nat.{div-eq_of_lt, mod-lt}
use Rattle.of10_model.specs.Normal.{bit}

-- a word has no bit from its 32nd on
below_pow : (word place : ℕ) → word < 2 ^ 32 → 32 ≤ place → word < 2 ^ place
below_pow word place lt le = let more = pow_mono le in omega arith

pub all_below : (word place : ℕ) → word < 2 ^ 32 → 32 ≤ place → nat_lt word (2 ^ place) ≡ true
all_below word place lt le = lt-ltb word (2 ^ place) (below_pow word place lt le)

pub no_bit : (word place : ℕ) → word < 2 ^ 32 → 32 ≤ place → bit word place ≡ false
no_bit word place lt le =
    let none : word / 2 ^ place ≡ 0 = div-eq_of_lt (below_pow word place lt le) in
    rw none refl

-- nothing is left of a word without its low bits exactly where it has no others
pub none_left : (word place : ℕ) → (word / 2 ^ place == 0) ≡ nat_lt word (2 ^ place)
none_left word place =
    elim (cases_lt word (2 ^ place)) [
      | inl lt ↦ rw (lt-ltb word (2 ^ place) lt, div-eq_of_lt lt) refl
      | inr le ↦
          rw (le-ltb word (2 ^ place) le)
          (ne_eqb (word / 2 ^ place) 0 (λ e.
          let parts : word / 2 ^ place * 2 ^ place + word % 2 ^ place ≡ word = shr_split word place in
          let rest : word % 2 ^ place < 2 ^ place = mod-lt word (pow_pos place) in
          let low : 0 * 2 ^ place + word % 2 ^ place ≡ word = rw e at parts in
          omega arith))
    ]
