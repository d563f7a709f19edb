-- Numbers among the program's words.
use Rattle.std.proofs.Common.{Bool, subst, map, ◌≡◌, ◌≢◌, leb-true, ◌≤◌, ◌<◌, ◌^◌, ◌&&◌, ℕ, List, [], ◌∷◌, length, get_or, refl, sym, arith, true, false}
use Rattle.std.specs.Prelude.{Some, None, if◌then◌else◌, leb, ◌||◌, not}
use Rattle.std.specs.List.{list_all}
use Rattle.std.specs.Str.Parse.{AllDigits, IsNumeral, digits_value, without_leading_plus}
use Rattle.std.specs.Char.{digit_value}
use Rattle.std.proofs.lemmas.Str.{digit_value_digit}
use Rattle.std.proofs.lemmas.Str.Parse.{without_leading_plus_none}
use Rattle.fv_base.specs.Words.{is_digit, is_number, number_of, starts_with_zero, within, form_of}

both : (a b : Bool) → (a && b) ≡ true → (a ≡ true) × (b ≡ true)
both true b h = (refl, h)
both false b h = absurd cc

digit_from : (c : ℕ) → is_digit c ≡ true → (48 ≤ c) × (c ≤ 57)
digit_from c h = let p = both (leb 48 c) (leb c 57) h in (leb-true 48 c p.0, leb-true c 57 p.1)

digit_below : (c : ℕ) → is_digit c ≡ true → digit_value c < 10
digit_below c h = let p = digit_from c h in let v = digit_value_digit c p in omega (arith, v, p.1)

-- digits are what the standard library calls so
digits_are : (ds : List ℕ) → list_all is_digit ds ≡ true → AllDigits 10 ds
digits_are [] h = tt
digits_are (c ∷ cs) h = let p = both (is_digit c) (list_all is_digit cs) h in (digit_below c p.0, digits_are cs p.1)

no_plus : (ds : List ℕ) → list_all is_digit ds ≡ true → get_or ds 0 0 ≢ 43
no_plus [] h = λ e. absurd (omega (arith, e))
no_plus (c ∷ cs) h = λ e. let p = digit_from c (both (is_digit c) (list_all is_digit cs) h).0 in absurd (omega (arith, e, p.0))

none-outside : (least most v : ℕ) → leb v most ≡ false → None ≡ within least most (Some v)
none-outside least most v h = elim (leb least v) as (λ b. leb v most ≡ false → None ≡ (if b && leb v most then Some v else None)) [
  | true ↦ λ e. rw e refl
  | false ↦ λ e. refl
] h

-- a number that isn't parsed as 64 bits is outside the limits
pub not_parsed : (least most : ℕ) (word : List ℕ) → most < 2 ^ 64 → is_number word ≡ true → ¬ (IsNumeral 10 (without_leading_plus word) × (digits_value 10 (without_leading_plus word) < 2 ^ 64)) → None ≡ within least most (number_of word)
not_parsed least most word few h fails =
    let p = both (leb 1 (length word)) (list_all is_digit word) (both (leb 1 (length word) && list_all is_digit word) (leb (length word) 1 || not (starts_with_zero word)) h).0 in
    let digits = p.1 in
    let same : without_leading_plus word ≡ word = without_leading_plus_none word (no_plus word digits) in
    let v = digits_value 10 word in
    let outside : leb v most ≡ false = elim (leb v most) as (λ b. leb v most ≡ b → leb v most ≡ false) [
      | true ↦ λ e. absurd (fails (subst (λ w. IsNumeral 10 w × (digits_value 10 w < 2 ^ 64)) (sym same) ((leb-true 1 (length word) p.0, digits_are word digits), (let k = leb-true v most e in omega (arith, k, few)))))
      | false ↦ λ e. e
    ] refl in
    rw h (none-outside least most v outside)

-- words of which there are too few or too many have no form
pub few_words : {A : Type 0} (f : A → List ℕ) (words : List A) → length words < 2 → None ≡ form_of (map f words)
few_words f [] h = refl
few_words f (a ∷ []) h = refl
few_words f (a ∷ b ∷ more) h = absurd (omega (arith, h))

pub many_words : {A : Type 0} (f : A → List ℕ) (words : List A) → 5 ≤ length words → None ≡ form_of (map f words)
many_words f [] h = absurd (omega (arith, h))
many_words f (a ∷ []) h = absurd (omega (arith, h))
many_words f (a ∷ b ∷ []) h = absurd (omega (arith, h))
many_words f (a ∷ b ∷ c ∷ []) h = absurd (omega (arith, h))
many_words f (a ∷ b ∷ c ∷ d ∷ []) h = absurd (omega (arith, h))
many_words f (a ∷ b ∷ c ∷ d ∷ e ∷ more) h = refl
