-- Where the collection of a request stands, and what a change there does to the look-ups.
use Rattle.std.proofs.Common.{◌≡◌, ◌≢◌, ℕ, ◌<◌, ◌≤◌, ◌++◌, Bool, true, false, List, [], ◌∷◌, zero, suc, length, take, drop, get_or, refl, ap, sym, ◌∙◌, inl, inr, arith}
use Rattle.std.specs.Prelude.{◌==◌, nat_lt, find, position, is_some, slice_set, Option, Some, None}
use Rattle.std.specs.List.{position_or_len, AllByRecursion}
use Rattle.std.proofs.lemmas.Bool.{cases_Bool, eq-eqb, ne_eqb, ltb-true, ltb-false}
use Rattle.std.proofs.lemmas.Option.{IfSome_then}
use Rattle.std.proofs.lemmas.Bool.Decides.{eqb_tells}
use Rattle.xid_map.specs.Collections.{Collected, HasRoomToCollect}

-- the first collection of the request stands at k
abbrev pub StandsAt : (number k : ℕ) → List Collected → Type 0
StandsAt number k [] = ⊥
StandsAt number zero (x ∷ xs) = x.gathered.number ≡ number
StandsAt number (suc k) (x ∷ xs) = (x.gathered.number ≢ number) × StandsAt number k xs

-- none is of the request
abbrev pub Nowhere : ℕ → List Collected → Type 0
Nowhere number xs = AllByRecursion (λ x. x.gathered.number ≢ number) xs

abbrev is_of : ℕ → Collected → Bool
is_of number c = c.gathered.number == number

StandsAt-position_or_len : (number : ℕ) (xs : List Collected) → position_or_len (is_of number) xs < length xs → StandsAt number (position_or_len (is_of number) xs) xs
StandsAt-position_or_len number [] within = absurd (omega arith)
StandsAt-position_or_len number (x ∷ xs) within = elim (eqb_tells x.gathered.number number) [
  | inl own ↦ rw own.0 own.1
  | inr other ↦
      let more : position_or_len (is_of number) (x ∷ xs) ≡ suc (position_or_len (is_of number) xs) = rw other.0 (omega arith) in
      rw more (other.1, StandsAt-position_or_len number xs (omega (arith, rw more at within)))
]

Nowhere-position_or_len : (number : ℕ) (xs : List Collected) → length xs ≤ position_or_len (is_of number) xs → Nowhere number xs
Nowhere-position_or_len number [] past = tt
Nowhere-position_or_len number (x ∷ xs) past = elim (eqb_tells x.gathered.number number) [
  | inl own ↦ absurd (let zero_is : position_or_len (is_of number) (x ∷ xs) ≡ 0 = rw own.0 refl in omega (arith, rw zero_is at past))
  | inr other ↦
      let more : position_or_len (is_of number) (x ∷ xs) ≡ suc (position_or_len (is_of number) xs) = rw other.0 (omega arith) in
      (other.1, Nowhere-position_or_len number xs (omega (arith, rw more at past)))
]

-- what `position` says
pub StandsAt-position : (number k : ℕ) (xs : List Collected) → Some k ≡ position (λ c. c.gathered.number == number) xs → StandsAt number k xs
StandsAt-position number k xs e =
    let n : ℕ = position_or_len (is_of number) xs in
    elim (cases_Bool (nat_lt n (length xs))) [
      | inl within ↦ let here : Some k ≡ Some n = rw within at e in
          let same : k ≡ n = cc in
          rw same (StandsAt-position_or_len number xs (ltb-true n (length xs) within))
      | inr past ↦ let none : Some k ≡ None = rw past at e in cc
    ]

pub Nowhere-position : (number : ℕ) (xs : List Collected) → None ≡ position (λ c. c.gathered.number == number) xs → Nowhere number xs
Nowhere-position number xs e =
    let n : ℕ = position_or_len (is_of number) xs in
    elim (cases_Bool (nat_lt n (length xs))) [
      | inl within ↦ let some : None ≡ Some n = rw within at e in cc
      | inr past ↦ Nowhere-position_or_len number xs (ltb-false n (length xs) past)
    ]

pub StandsAt-is_some : (number : ℕ) (xs : List Collected) (place : Option ℕ) → place ≡ position (λ c. c.gathered.number == number) xs → true ≡ is_some place
    → (k : ℕ) × StandsAt number k xs
StandsAt-is_some number xs None e there = cc
StandsAt-is_some number xs (Some k) e there = (k, StandsAt-position number k xs e)

pub Nowhere-is_some : (number : ℕ) (xs : List Collected) (place : Option ℕ) → place ≡ position (λ c. c.gathered.number == number) xs → false ≡ is_some place
    → Nowhere number xs
Nowhere-is_some number xs None e out = Nowhere-position number xs e
Nowhere-is_some number xs (Some k) e out = cc

-- ---- look-ups

pub number_at : (number k : ℕ) (xs : List Collected) (z : Collected) → StandsAt number k xs → z ≡ get_or xs k z → z.gathered.number ≡ number
number_at number k [] z at is = absurd at
number_at number zero (x ∷ xs) z at is = rw is at
number_at number (suc k) (x ∷ xs) z at is = number_at number k xs z at.1 is

pub find_here : (number k : ℕ) (xs : List Collected) (z : Collected) → StandsAt number k xs → z ≡ get_or xs k z → find (is_of number) xs ≡ Some z
find_here number k [] z at is = absurd at
find_here number zero (x ∷ xs) z at is = let own : is_of number x ≡ true = eq-eqb _ _ at in rw own (ap (λ c. Some c) (sym is))
find_here number (suc k) (x ∷ xs) z at is = let other : is_of number x ≡ false = ne_eqb _ _ at.0 in rw other (find_here number k xs z at.1 is)

pub find_nowhere : (number : ℕ) (xs : List Collected) → Nowhere number xs → find (is_of number) xs ≡ None
find_nowhere number [] out = refl
find_nowhere number (x ∷ xs) out = let other : is_of number x ≡ false = ne_eqb _ _ out.0 in rw other (find_nowhere number xs out.1)

pub find_changed : (number k : ℕ) (xs : List Collected) (y : Collected) → StandsAt number k xs → y.gathered.number ≡ number
    → find (is_of number) (slice_set xs k y) ≡ Some y
find_changed number k [] y at own = absurd at
find_changed number zero (x ∷ xs) y at own = let is : is_of number y ≡ true = eq-eqb _ _ own in rw is refl
find_changed number (suc k) (x ∷ xs) y at own = let other : is_of number x ≡ false = ne_eqb _ _ at.0 in rw other (find_changed number k xs y at.1 own)

pub find_other : (other number k : ℕ) (xs : List Collected) (y : Collected) → other ≢ number → StandsAt number k xs → y.gathered.number ≡ number
    → find (is_of other) (slice_set xs k y) ≡ find (is_of other) xs
find_other other number k [] y apart at own = absurd at
find_other other number zero (x ∷ xs) y apart at own =
    let was : is_of other x ≡ false = ne_eqb _ _ (λ e. apart (sym e ∙ at)) in
    let is : is_of other y ≡ false = ne_eqb _ _ (λ e. apart (sym e ∙ own)) in
    rw (was, is) refl
find_other other number (suc k) (x ∷ xs) y apart at own =
    elim (cases_Bool (is_of other x)) [
      | inl this ↦ rw this refl
      | inr not_this ↦ rw not_this (find_other other number k xs y apart at.1 own)
    ]

pub find_removed : (other number k : ℕ) (xs : List Collected) → other ≢ number → StandsAt number k xs
    → find (is_of other) (take k xs ++ drop (suc k) xs) ≡ find (is_of other) xs
find_removed other number k [] apart at = absurd at
find_removed other number zero (x ∷ xs) apart at =
    let was : is_of other x ≡ false = ne_eqb _ _ (λ e. apart (sym e ∙ at)) in rw was refl
find_removed other number (suc k) (x ∷ xs) apart at =
    elim (cases_Bool (is_of other x)) [
      | inl this ↦ rw this refl
      | inr not_this ↦ rw not_this (find_removed other number k xs apart at.1)
    ]

-- ---- room

-- what is reserved for a request is reserved in its collection
pub HasRoom-here : (number bytes k : ℕ) (xs : List Collected) (z : Collected) → StandsAt number k xs → z ≡ get_or xs k z
    → HasRoomToCollect number bytes xs → bytes ≤ z.spare
HasRoom-here number bytes k xs z at is room = let e = find_here number k xs z at is in rw e at room

pub HasRoom-changed : (number bytes k : ℕ) (xs : List Collected) (y : Collected) → StandsAt number k xs → y.gathered.number ≡ number
    → bytes ≤ y.spare → HasRoomToCollect number bytes (slice_set xs k y)
HasRoom-changed number bytes k xs y at own room = rw (find_changed number k xs y at own) room

pub HasRoom-other : (other number bytes k : ℕ) (xs : List Collected) (y : Collected) → other ≢ number → StandsAt number k xs → y.gathered.number ≡ number
    → HasRoomToCollect other bytes xs → HasRoomToCollect other bytes (slice_set xs k y)
HasRoom-other other number bytes k xs y apart at own room = rw (find_other other number k xs y apart at own) room

pub HasRoom-nowhere : (number bytes : ℕ) (xs : List Collected) → Nowhere number xs → HasRoomToCollect number bytes xs
HasRoom-nowhere number bytes xs out = rw (find_nowhere number xs out) tt

-- a collection for which no less memory was taken keeps the room of all
pub HasRoom-grown : (other number bytes k : ℕ) (xs : List Collected) (z y : Collected) → StandsAt number k xs → z ≡ get_or xs k z
    → y.gathered.number ≡ z.gathered.number → z.spare ≤ y.spare
    → HasRoomToCollect other bytes xs → HasRoomToCollect other bytes (slice_set xs k y)
HasRoom-grown other number bytes k xs z y at is same spare was =
    let own : y.gathered.number ≡ number = same ∙ number_at number k xs z at is in
    elim (eqb_tells other number) [
      | inl this ↦ let mine : HasRoomToCollect number bytes xs = rw this.1 at was in
          let le = HasRoom-here number bytes k xs z at is mine in
          rw this.1 (HasRoom-changed number bytes k xs y at own (omega arith))
      | inr apart ↦ HasRoom-other other number bytes k xs y apart.1 at own was
    ]

pub HasRoom-removed : (other number bytes k : ℕ) (xs : List Collected) → other ≢ number → StandsAt number k xs
    → HasRoomToCollect other bytes xs → HasRoomToCollect other bytes (take k xs ++ drop (suc k) xs)
HasRoom-removed other number bytes k xs apart at room = rw (find_removed other number k xs apart at) room

-- with memory for some bytes there is memory for fewer
pub HasRoom-less : (number fewer bytes : ℕ) (xs : List Collected) → fewer ≤ bytes → HasRoomToCollect number bytes xs → HasRoomToCollect number fewer xs
HasRoom-less number fewer bytes xs le room =
    IfSome_then (find (λ c. c.gathered.number == number) xs) room (λ c spare. omega arith)
