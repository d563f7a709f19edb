-- The latest timestamp of a view is the greatest of the timestamps of its items.
use Rattle.std.proofs.Common.{◌≡◌, ◌≤◌, ◌⊎◌, ℕ, ◌<◌, true, false, leb, List, [], ◌∷◌, max, All, Contains, refl, arith, inl, inr}
use Rattle.std.proofs.lemmas.Bool.Decides.{leb_tells}
use Rattle.std.proofs.lemmas.List.Elements.{All-nil, All-cons, All-weaker, Contains-append_right}
use Rattle.rate_bucket.specs.Rates.{latest}
use Rattle.slice_words.specs.Items.{Item, moments}
use Rattle.slice_words.specs.Laws.{IsAtLeastEach, IsOneOrZero}

-- another timestamp before the rest
least_before : (moment greatest : ℕ) (rest : List ℕ) → All (λ m. m ≤ greatest) rest → All (λ m. m ≤ max moment greatest) (moment ∷ rest)
least_before moment greatest rest each =
    All-cons (λ m. m ≤ max moment greatest) moment rest (omega arith)
    (All-weaker (λ m. m ≤ greatest) (λ m. m ≤ max moment greatest) (λ m within. omega (arith, within)) rest each)

least_of : (asked : List ℕ) → All (λ m. m ≤ latest asked) asked
least_of [] = All-nil (λ m. m ≤ 0)
least_of (moment ∷ earlier) = least_before moment (latest earlier) earlier (least_of earlier)

pub at_least_each : (view : List Item) → IsAtLeastEach view
at_least_each view = least_of (moments view)

greater : (moment greatest : ℕ) → (max moment greatest ≡ moment) ⊎ (max moment greatest ≡ greatest)
greater moment greatest = either (leb_tells moment greatest)
  where
    either : ((leb moment greatest ≡ true) × (moment ≤ greatest)) ⊎ ((leb moment greatest ≡ false) × (greatest < moment)) → (max moment greatest ≡ moment) ⊎ (max moment greatest ≡ greatest)
    either (inl least) = inr (omega (arith, least.1))
    either (inr most) = inl (omega (arith, most.1))

one_before : (moment greatest : ℕ) (rest : List ℕ) → Contains rest greatest ⊎ ((rest ≡ []) × (greatest ≡ 0)) → (max moment greatest ≡ moment) ⊎ (max moment greatest ≡ greatest)
    → Contains (moment ∷ rest) (max moment greatest) ⊎ ((moment ∷ rest ≡ []) × (max moment greatest ≡ 0))
one_before moment greatest rest before (inl own) = inl (rw own (0, omega arith, refl))
one_before moment greatest rest (inl among) (inr other) = inl (rw other (Contains-append_right (moment ∷ []) rest greatest among))
one_before moment greatest rest (inr none) (inr other) = inl (0, omega arith, omega (arith, other, none.1))

one_of : (asked : List ℕ) → Contains asked (latest asked) ⊎ ((asked ≡ []) × (latest asked ≡ 0))
one_of [] = inr (refl, refl)
one_of (moment ∷ earlier) = one_before moment (latest earlier) earlier (one_of earlier) (greater moment (latest earlier))

pub one_or_zero : (view : List Item) → IsOneOrZero view
one_or_zero view = one_of (moments view)
