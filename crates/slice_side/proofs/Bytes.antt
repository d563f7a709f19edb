-- The first 64 bytes of a message, with zeros behind a shorter one.
use Rattle.std.proofs.Common.{◌≡◌, ℕ, ◌+◌, ◌-◌, ◌<◌, ◌≤◌, List, ◌++◌, length, take, drop, min, replicate, sym, ap, ◌∙◌, arith, inl, inr, append-nil}
use Rattle.std.proofs.lemmas.Bool.Decides.{leb_tells}
use Rattle.std.proofs.lemmas.List.{take-append-le, take-replicate, drop-replicate, take_all}
use Rattle.std.proofs.Math.Seq.{take-append-add}

by_length : (bytes : List ℕ) (n blank : ℕ) → n ≡ min (length bytes) 64 → (length bytes ≤ 64) → take n bytes ++ drop n (replicate 64 blank) ≡ take 64 (bytes ++ replicate 64 blank)
by_length bytes n blank is short =
    let own : n ≡ length bytes = omega (arith, is, short) in
    let sum : 64 ≡ length bytes + (64 - length bytes) = omega (arith, short) in
    ap (λ (k : ℕ). take k bytes ++ drop k (replicate 64 blank)) own
    ∙ ap (λ (front : List ℕ). front ++ drop (length bytes) (replicate 64 blank)) (take_all (length bytes) bytes (omega arith))
    ∙ ap (λ (rest : List ℕ). bytes ++ rest) (drop-replicate (length bytes) 64 blank ∙ sym (take-replicate (64 - length bytes) 64 blank (omega (arith, short))))
    ∙ sym (take-append-add bytes (replicate 64 blank) (64 - length bytes))
    ∙ ap (λ (k : ℕ). take k (bytes ++ replicate 64 blank)) (sym sum)

by_limit : (bytes : List ℕ) (n blank : ℕ) → n ≡ min (length bytes) 64 → 64 < length bytes → take n bytes ++ drop n (replicate 64 blank) ≡ take 64 (bytes ++ replicate 64 blank)
by_limit bytes n blank is long =
    let full : n ≡ 64 = omega (arith, is, long) in
    ap (λ (k : ℕ). take k bytes ++ drop k (replicate 64 blank)) full
    ∙ ap (λ (rest : List ℕ). take 64 bytes ++ rest) (drop-replicate 64 64 blank)
    ∙ append-nil (take 64 bytes)
    ∙ sym (take-append-le 64 bytes (replicate 64 blank) (omega (arith, long)))

pub first_is : (bytes : List ℕ) (n blank : ℕ) → n ≡ min (length bytes) 64 → take n bytes ++ drop n (replicate 64 blank) ≡ take 64 (bytes ++ replicate 64 blank)
first_is bytes n blank is = elim (leb_tells (length bytes) 64) [ inl short ↦ by_length bytes n blank is short.1 | inr long ↦ by_limit bytes n blank is long.1 ]
