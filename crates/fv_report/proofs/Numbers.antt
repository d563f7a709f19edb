-- The digits of ten numbers that differ in the last one.
use Rattle.std.proofs.Common.{◌≡◌, ◌∙◌, ◌+◌, ◌-◌, ◌/◌, ◌%◌, ◌^◌, ◌<◌, ◌≤◌, ℕ, List, [], ◌∷◌, ◌++◌, length, take, decimal, sym, ap, inl, inr, arith, length-append, take_all}
use Rattle.std.proofs.lemmas.List.{take-append-le}
use Rattle.std.proofs.lemmas.Bool.{cases_lt}
use Rattle.std.proofs.lemmas.Fmt.{decimal_digit, decimal_step_wide}
use Rattle.fv_report.specs.Digits.{HasTens}

all_but_last : (front : List ℕ) (last : ℕ) → take (length (front ++ last ∷ []) - 1) (front ++ last ∷ []) ≡ front
all_but_last front last =
    let long = length-append front (last ∷ []) in
    take-append-le (length (front ++ last ∷ []) - 1) front (last ∷ []) (omega arith) ∙ take_all (length (front ++ last ∷ []) - 1) front (omega arith)

-- of ten from one digit on
few_tens : (first digit : ℕ) → first % 10 ≡ 0 → first < 10 → digit < 10 → take (length (decimal first) - 1) (decimal first) ++ (48 + digit) ∷ [] ≡ decimal (first + digit)
few_tens first digit round few is =
    let zero : decimal first ≡ 48 ∷ [] = ap decimal (omega (arith, round, few)) ∙ decimal_digit 0 (omega arith) in
    let own : first + digit ≡ digit = omega (arith, round, few) in
    ap (λ (digits : List ℕ). take (length digits - 1) digits ++ (48 + digit) ∷ []) zero ∙ sym (ap decimal own ∙ decimal_digit digit is)

-- of ten from two digits on
more_tens : (first digit : ℕ) → first % 10 ≡ 0 → 10 ≤ first → first < 2 ^ 64 → digit < 10 → take (length (decimal first) - 1) (decimal first) ++ (48 + digit) ∷ [] ≡ decimal (first + digit)
more_tens first digit round many small is =
    let tens : (first + digit) / 10 ≡ first / 10 = omega (arith, round, is) in
    let ones : (first + digit) % 10 ≡ digit = omega (arith, round, is) in
    let own = decimal_step_wide (first + digit) (omega (arith, many)) (omega (arith, small, is)) in
    ap (λ (digits : List ℕ). take (length digits - 1) digits ++ (48 + digit) ∷ []) (decimal_step_wide first many (omega (arith, small)))
    ∙ ap (λ (front : List ℕ). front ++ (48 + digit) ∷ []) (all_but_last (decimal (first / 10)) (48 + first % 10))
    ∙ sym (own ∙ ap (λ (n : ℕ). decimal n ++ (48 + (first + digit) % 10) ∷ []) tens ∙ ap (λ (n : ℕ). decimal (first / 10) ++ (48 + n) ∷ []) ones)

-- all digits but the last of the first of ten
pub tens_of : (first : ℕ) → first % 10 ≡ 0 → first < 2 ^ 64 → HasTens first (take (length (decimal first) - 1) (decimal first))
unfolding HasTens
tens_of first round small digit is =
    elim (cases_lt first 10) [
      | inl few ↦ few_tens first digit round few is
      | inr many ↦ more_tens first digit round many small is
    ]
