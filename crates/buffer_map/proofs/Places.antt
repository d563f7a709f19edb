-- The order of the packets: which are forgotten, and where one stands.
use Rattle.std.proofs.Common.{◌≡◌, ◌≢◌, ℕ, ◌+◌, ◌-◌, ◌%◌, ◌^◌, ◌<◌, ◌≤◌, ◌++◌, not, Bool, true, false, List, [], ◌∷◌, zero, suc, length, get_or, refl, ap, sym, subst, ◌∙◌, inl, inr, arith}
use Rattle.std.specs.Prelude.{nat_le, nat_lt, filter, find, position, AllPairs, Some, None}
use Rattle.std.specs.List.{list_any, position_or_len, remove}
use Rattle.std.specs.List.Sorted.{IsPermutation}
use Rattle.std.proofs.lemmas.List.Sorted.{IsPermutation-remove}
use Rattle.std.proofs.lemmas.Bool.{cases_Bool, ne_eqb, eqb-true, leb-true, leb-false, le-leb, lt-leb, ltb-true, ltb-false, or_parts}
use Rattle.buffer_map.specs.declared.held.Held.{Held}
use Rattle.buffer_map.specs.Buffers.{numbered, is_recent}
use Rattle.buffer_map.specs.Places.{IsInOrder}

-- ---- order

IsInOrder-later : (count m n : ℕ) (xs : List Held) → m ≤ n → IsInOrder count m xs → IsInOrder count n xs
IsInOrder-later count m n [] le h = tt
IsInOrder-later count m n (x ∷ xs) le h = (omega (arith, h.0), h.1, h.2)

pub IsInOrder-filter : (test : Held → Bool) (count n : ℕ) (xs : List Held) → IsInOrder count n xs → IsInOrder count n (filter test xs)
IsInOrder-filter test count n [] h = tt
IsInOrder-filter test count n (x ∷ xs) h =
    let rest = IsInOrder-filter test count x.ordinal xs h.2 in
    elim (cases_Bool (test x)) [
      | inl stays ↦ rw stays (h.0, h.1, rest)
      | inr goes ↦ rw goes (IsInOrder-later count x.ordinal n (filter test xs) (omega (arith, h.0)) rest)
    ]

-- what is recent after one more is in order for one more
pub IsInOrder-recent : (count n : ℕ) (xs : List Held) → IsInOrder count n xs → IsInOrder (count + 1) n (filter (is_recent (count + 1)) xs)
IsInOrder-recent count n [] h = tt
IsInOrder-recent count n (x ∷ xs) h =
    let rest = IsInOrder-recent count x.ordinal xs h.2 in
    elim (cases_Bool (is_recent (count + 1) x)) [
      | inl stays ↦ rw stays (h.0, leb-true _ _ stays, rest)
      | inr goes ↦ rw goes (IsInOrder-later (count + 1) x.ordinal n _ (omega (arith, h.0)) rest)
    ]

pub few : (count n : ℕ) (xs : List Held) → IsInOrder count n xs → count ≤ n + 256 → length xs + count ≤ n + 256
few count n [] h near = omega arith
few count n (x ∷ xs) h near = omega (arith, h.0, few count x.ordinal xs h.2 h.1)

-- ---- the oldest

pub filter_all : (test : Held → Bool) (xs : List Held) → list_any (λ b. not (test b)) xs ≡ false → filter test xs ≡ xs
filter_all test [] none = refl
filter_all test (x ∷ xs) none = elim (cases_Bool (test x)) [
  | inl stays ↦ rw stays (ap (λ rest. x ∷ rest) (filter_all test xs (or_parts _ _ none).1))
  | inr goes ↦ let out : not (test x) ≡ false = (or_parts _ _ none).0 in let no : not false ≡ false = rw goes at out in cc
]

last_lower : (count n : ℕ) (xs : List Held) (z : Held) → IsInOrder count n (xs ++ z ∷ []) → (z.ordinal < n) × (count ≤ z.ordinal + 256)
last_lower count n [] z h = (h.0, h.1)
last_lower count n (x ∷ xs) z h = let rest = last_lower count x.ordinal xs z h.2 in (omega (arith, h.0, rest.0), rest.1)

-- the oldest is the only one that one more puts past the last 256
pub forgotten : (count n : ℕ) (xs : List Held) (z : Held) → IsInOrder count n (xs ++ z ∷ []) → list_any (λ b. not (is_recent (count + 1) b)) (xs ++ z ∷ []) ≡ true
    → filter (is_recent (count + 1)) (xs ++ z ∷ []) ≡ xs
forgotten count n [] z h any = elim (cases_Bool (is_recent (count + 1) z)) [
  | inl stays ↦ let no : false ≡ true = rw stays at any in cc
  | inr goes ↦ rw goes refl
]
forgotten count n (x ∷ xs) z h any =
    let last = last_lower count x.ordinal xs z h.2 in
    let stays : is_recent (count + 1) x ≡ true = le-leb _ _ (omega (arith, last.0, last.1)) in
    rw stays (ap (λ rest. x ∷ rest) (forgotten count x.ordinal xs z h.2 (rw stays at any)))

pub oldest_forgotten : (count : ℕ) (xs ys : List Held) (z : Held) → IsInOrder count count xs → xs ≡ ys ++ z ∷ [] → true ≡ list_any (λ b. not (is_recent (count + 1) b)) xs
    → ys ≡ filter (is_recent (count + 1)) xs
oldest_forgotten count xs ys z h at any =
    sym (subst (λ l. filter (is_recent (count + 1)) l ≡ ys) (sym at)
    (forgotten count count ys z (subst (IsInOrder count count) at h) (subst (λ l. list_any (λ b. not (is_recent (count + 1) b)) l ≡ true) at (sym any))))

-- where each packet stands
ordinal_at : (count n k : ℕ) (xs : List Held) (d : Held) → IsInOrder count n xs → k < length xs → ((get_or xs k d).ordinal < n) × (count ≤ (get_or xs k d).ordinal + 256)
ordinal_at count n k [] d h within = absurd (omega arith)
ordinal_at count n zero (x ∷ xs) d h within = (h.0, h.1)
ordinal_at count n (suc k) (x ∷ xs) d h within = let rest = ordinal_at count x.ordinal k xs d h.2 (omega arith) in (omega (arith, h.0, rest.0), rest.1)

-- the oldest shows whether one is past
past_oldest : (count n : ℕ) (xs : List Held) (d : Held) → IsInOrder count n xs → 0 < length xs
    → list_any (λ b. not (is_recent (count + 1) b)) xs ≡ nat_le 256 (count - (get_or xs (length xs - 1) d).ordinal)
past_oldest count n [] d h some = absurd (omega arith)
past_oldest count n (x ∷ []) d h some = elim (cases_Bool (is_recent (count + 1) x)) [
  | inl stays ↦ let still = leb-true _ _ stays in rw (stays, lt-leb 256 (count - x.ordinal) (omega (arith, still))) refl
  | inr goes ↦ let past = leb-false _ _ goes in rw (goes, le-leb 256 (count - x.ordinal) (omega (arith, past))) refl
]
past_oldest count n (x ∷ y ∷ ys) d h some =
    let stays : is_recent (count + 1) x ≡ true = le-leb _ _ (omega (arith, h.2.0, h.2.1)) in
    let place : length (x ∷ y ∷ ys) - 1 ≡ suc (length (y ∷ ys) - 1) = omega arith in
    rw (stays, place) (past_oldest count x.ordinal (y ∷ ys) d h.2 (omega arith))

-- the oldest, as it is read
pub oldest : (count : ℕ) (xs : List Held) (z : Held) → IsInOrder count count xs → 0 < length xs → z ≡ get_or xs (length xs - 1) z
    → (z.ordinal < count) × (list_any (λ b. not (is_recent (count + 1) b)) xs ≡ nat_le 256 (count - z.ordinal))
oldest count xs z h some is =
    let o : z.ordinal ≡ (get_or xs (length xs - 1) z).ordinal = ap (λ b. b.ordinal) is in
    (omega (arith, o, (ordinal_at count count (length xs - 1) xs z h (omega arith)).0), past_oldest count count xs z h some ∙ ap (λ k. nat_le 256 (count - k)) (sym o))

-- ---- the packet of a number

-- the numbers of the last 256 differ
others : (count m ordinal number : ℕ) (xs : List Held) → IsInOrder count m xs → m ≤ ordinal → ordinal < count → ordinal % 16777216 ≡ number
    → filter (λ b. not (numbered number b)) xs ≡ xs
others count m ordinal number [] h lower within is = refl
others count m ordinal number (x ∷ xs) h lower within is =
    let other : numbered number x ≡ false = ne_eqb _ _ (λ e. omega (arith, h.0, h.1, e)) in
    rw other (ap (λ rest. x ∷ rest) (others count x.ordinal ordinal number xs h.2 (omega (arith, h.0)) within is))

used_there : (count n number : ℕ) (xs : List Held) → IsInOrder count n xs → n ≤ count → position_or_len (numbered number) xs < length xs
    → filter (λ b. not (numbered number b)) xs ≡ remove xs (position_or_len (numbered number) xs)
used_there count n number [] h le within = absurd (omega arith)
used_there count n number (x ∷ xs) h le within = elim (cases_Bool (numbered number x)) [
  | inl this ↦ rw this (others count x.ordinal x.ordinal number xs h.2 (omega arith) (omega (arith, h.0)) (eqb-true _ _ this))
  | inr other ↦
      let more : position_or_len (numbered number) (x ∷ xs) ≡ suc (position_or_len (numbered number) xs) = rw other (omega arith) in
      rw (more, other) (ap (λ rest. x ∷ rest) (used_there count x.ordinal number xs h.2 (omega (arith, h.0)) (omega (arith, rw more at within))))
]

found_there : (number : ℕ) (xs : List Held) (d : Held) → position_or_len (numbered number) xs < length xs
    → find (numbered number) xs ≡ Some (get_or xs (position_or_len (numbered number) xs) d)
found_there number [] d within = absurd (omega arith)
found_there number (x ∷ xs) d within = elim (cases_Bool (numbered number x)) [
  | inl this ↦ rw this refl
  | inr other ↦
      let more : position_or_len (numbered number) (x ∷ xs) ≡ suc (position_or_len (numbered number) xs) = rw other (omega arith) in
      rw (more, other) (found_there number xs d (omega (arith, rw more at within)))
]

nowhere : (number : ℕ) (xs : List Held) → length xs ≤ position_or_len (numbered number) xs
    → (find (numbered number) xs ≡ None) × (filter (λ b. not (numbered number b)) xs ≡ xs)
nowhere number [] past = (refl, refl)
nowhere number (x ∷ xs) past = elim (cases_Bool (numbered number x)) [
  | inl this ↦ absurd (let here : position_or_len (numbered number) (x ∷ xs) ≡ 0 = rw this refl in omega (arith, rw here at past))
  | inr other ↦
      let more : position_or_len (numbered number) (x ∷ xs) ≡ suc (position_or_len (numbered number) xs) = rw other (omega arith) in
      let rest = nowhere number xs (omega (arith, rw more at past)) in
      rw other (rest.0, ap (λ rest. x ∷ rest) rest.1)
]

-- the packet of the number stands at k
record IsPlace (count number k : ℕ) (xs : List Held) : Type 0 where
  within : k < length xs
  found : (d : Held) → find (numbered number) xs ≡ Some (get_or xs k d)
  used : IsInOrder count count xs → filter (λ b. not (numbered number b)) xs ≡ remove xs k

IsPlace-position : (count number k : ℕ) (xs : List Held) → Some k ≡ position (numbered number) xs → IsPlace count number k xs
IsPlace-position count number k xs e =
    let n : ℕ = position_or_len (numbered number) xs in
    elim (cases_Bool (nat_lt n (length xs))) [
      | inl within ↦ let here : Some k ≡ Some n = rw within at e in
          let same : k ≡ n = cc in
          let lt = ltb-true n (length xs) within in
          rw same (record { within = lt; found = λ d. found_there number xs d lt; used = λ h. used_there count count number xs h (omega arith) lt })
      | inr past ↦ let none : Some k ≡ None = rw past at e in cc
    ]

-- the packet that stands there is the one of the number
pub found_at : (number k : ℕ) (xs : List Held) (z : Held) → Some k ≡ position (numbered number) xs → z ≡ get_or xs k z → Some z ≡ find (numbered number) xs
found_at number k xs z at is = ap (λ b. Some b) is ∙ sym ((IsPlace-position 0 number k xs at).found z)

-- what is left once it is taken out
pub taken_out : (count number k : ℕ) (xs ys : List Held) (z : Held) → IsInOrder count count xs → Some k ≡ position (numbered number) xs → z ≡ get_or xs k z
    → (k < length xs → ys ≡ remove xs k) → (ys ≡ filter (λ b. not (numbered number b)) xs) × IsPermutation xs (z ∷ ys)
taken_out count number k xs ys z h at is out =
    let here = IsPlace-position count number k xs at in
    let left = out here.within in
    (left ∙ sym (here.used h), subst (λ l. IsPermutation xs (z ∷ l)) (sym left) (IsPermutation-remove xs k z here.within is))

pub nowhere-position : (number : ℕ) (xs : List Held) → None ≡ position (numbered number) xs
    → (find (numbered number) xs ≡ None) × (filter (λ b. not (numbered number b)) xs ≡ xs)
nowhere-position number xs e =
    let n : ℕ = position_or_len (numbered number) xs in
    elim (cases_Bool (nat_lt n (length xs))) [
      | inl within ↦ let some : None ≡ Some n = rw within at e in cc
      | inr past ↦ nowhere number xs (ltb-false n (length xs) past)
    ]

-- ---- numbers

later_lower : (count n i j : ℕ) (xs : List Held) (d : Held) → IsInOrder count n xs → i < j → j < length xs → (get_or xs j d).ordinal < (get_or xs i d).ordinal
later_lower count n i j [] d h before within = absurd (omega arith)
later_lower count n i zero (x ∷ xs) d h before within = absurd (omega arith)
later_lower count n zero (suc j) (x ∷ xs) d h before within = (ordinal_at count x.ordinal j xs d h.2 (omega arith)).0
later_lower count n (suc i) (suc j) (x ∷ xs) d h before within = later_lower count x.ordinal i j xs d h.2 (omega arith) (omega arith)

pub numbers_differ : (count : ℕ) (xs : List Held) → IsInOrder count count xs → AllPairs (λ one other. one.ordinal % 2 ^ 24 ≢ other.ordinal % 2 ^ 24) xs
numbers_differ count xs h i j d before within same =
    omega (
      arith,
      later_lower count count i j xs d h before within,
      (ordinal_at count count i xs d h (omega arith)).0,
      (ordinal_at count count j xs d h within).1,
      same,
    )
