-- The switch's numbers beside the packets: each as often as it is theirs.
use Rattle.std.proofs.Common.{◌≡◌, ℕ, ◌+◌, ◌<◌, ◌≤◌, not, Bool, true, false, cond, List, [], ◌∷◌, length, refl, ap, sym, ◌∙◌, inl, inr, arith, if◌then◌else◌, Result, Ok, Err}
use Rattle.std.specs.Prelude.{◌==◌, nat_lt, filter, count_by, is_ok}
use Rattle.std.specs.List.{list_any, remove}
use Rattle.std.specs.List.Sorted.{IsPermutation, IsNonDecreasing, IsBinarySearchResult}
use Rattle.std.specs.Ordering.{nat_cmp}
use Rattle.std.proofs.lemmas.Bool.{cases_Bool, eq-eqb, eqb-true, ne_eqb, ltb-true, ltb-false, or_parts}
use Rattle.std.proofs.lemmas.Bool.Decides.{eqb_tells}
use Rattle.std.proofs.lemmas.List.{get_or_default}
use Rattle.std.proofs.lemmas.List.Edits.{length-remove, get_or-remove_below, get_or-remove_above}
use Rattle.std.proofs.lemmas.List.Elements.{All-from_get_or}
use Rattle.std.proofs.lemmas.List.Filters.{length-filter_both}
use Rattle.std.proofs.lemmas.List.Folds.{list_any_at, list_any_none}
use Rattle.std.proofs.lemmas.List.Sorted.{searched, IsPermutation-remove, length_permutation, sum_by-IsPermutation}
use Rattle.std.proofs.lemmas.List.Sums.{sum_by-cons, length-filter}
use Rattle.buffer_map.specs.declared.held.Held.{Held}
use Rattle.buffer_map.specs.Places.{AreNumbersOf}

-- what a search in numbers that ascend says
pub is_ok-searched : (xs : List ℕ) (x : ℕ) (r : Result ℕ ℕ) → IsNonDecreasing xs → IsBinarySearchResult (λ y. nat_cmp y x) xs r
    → is_ok r ≡ list_any (λ other. other == x) xs
is_ok-searched xs x (Ok i) rise result =
    let at = searched xs x (Ok i) result (λ i j le within. rise i j 0 le within) in
    sym (list_any_at (λ other. other == x) xs i 0 at.0 (eq-eqb _ _ at.1))
is_ok-searched xs x (Err i) rise result =
    let at = searched xs x (Err i) result (λ i j le within. rise i j 0 le within) in
    sym (list_any_none (λ other. other == x) xs (All-from_get_or (λ other. (other == x) ≡ false) xs 0 (λ k within. elim (cases_Bool (nat_lt k i)) [
      | inl before ↦ ne_eqb _ _ (λ e. omega (arith, at.1 k (ltb-true k i before), e))
      | inr after ↦ ne_eqb _ _ (λ e. omega (arith, at.2 k (ltb-false k i after) within, e))
    ])))

IsNonDecreasing-remove : (xs : List ℕ) (place : ℕ) → place < length xs → IsNonDecreasing xs → IsNonDecreasing (remove xs place)
IsNonDecreasing-remove xs place here rise i j d le within =
    let long = length-remove xs place here in
    elim (cases_Bool (nat_lt i place)) [
      | inl low ↦ let first = get_or-remove_below xs place d i (ltb-true i place low) here in
          elim (cases_Bool (nat_lt j place)) [
            | inl near ↦ omega (arith, first, get_or-remove_below xs place d j (ltb-true j place near) here, rise i j d le (omega (arith, long)))
            | inr far ↦ omega (arith, first, get_or-remove_above xs place d j (ltb-false j place far) here, rise i (j + 1) d (omega arith) (omega (arith, long)))
          ]
      | inr high ↦
          let from : place ≤ i = ltb-false i place high in
          omega (arith, get_or-remove_above xs place d i from here, get_or-remove_above xs place d j (omega (arith, from)) here, rise (i + 1) (j + 1) d (omega arith) (omega (arith, long)))
    ]

-- where a search finds the number, it is taken out once; where it finds none, none is there
pub removed-searched : (xs : List ℕ) (x place : ℕ) → IsNonDecreasing xs → IsBinarySearchResult (λ y. nat_cmp y x) xs (Ok place)
    → IsNonDecreasing (remove xs place) × IsPermutation xs (x ∷ remove xs place)
removed-searched xs x place rise result =
    let at = searched xs x (Ok place) result (λ i j le within. rise i j 0 le within) in
    (IsNonDecreasing-remove xs place at.0 rise, IsPermutation-remove xs place x at.0 (sym at.1 ∙ get_or_default xs place 0 x at.0))

pub absent-searched : (xs : List ℕ) (x : ℕ) (r : Result ℕ ℕ) → IsNonDecreasing xs → IsBinarySearchResult (λ y. nat_cmp y x) xs r → ((place : ℕ) → r ≡ Ok place → ⊥)
    → list_any (λ other. other == x) xs ≡ false
absent-searched xs x (Ok place) rise result none = absurd (none place refl)
absent-searched xs x (Err place) rise result none = sym (is_ok-searched xs x (Err place) rise result)

-- ---- counts

counted_yes : {X : Type 0} (test : X → Bool) (x : X) (xs : List X) → test x ≡ true → count_by test (x ∷ xs) ≡ count_by test xs + 1
counted_yes test x xs passes = sum_by-cons (λ x. cond (test x) 1 0) x xs ∙ ap (λ b. cond b 1 0 + count_by test xs) passes ∙ omega arith

counted_no : {X : Type 0} (test : X → Bool) (x : X) (xs : List X) → test x ≡ false → count_by test (x ∷ xs) ≡ count_by test xs
counted_no test x xs fails = sum_by-cons (λ x. cond (test x) 1 0) x xs ∙ ap (λ b. cond b 1 0 + count_by test xs) fails ∙ omega arith

-- what is taken out is counted no more, and the others as before
without : {X : Type 0} (key : X → ℕ) (physical other : ℕ) (xs : List X)
    → count_by (λ x. key x == other) (filter (λ x. not (key x == physical)) xs) ≡ (if other == physical then 0 else count_by (λ x. key x == other) xs)
without key physical other [] = elim (cases_Bool (other == physical)) [ inl same ↦ rw same refl | inr apart ↦ rw apart refl ]
without key physical other (x ∷ xs) =
    let rest = without key physical other xs in
    let left = filter (λ x. not (key x == physical)) xs in
    elim (eqb_tells (key x) physical) [
      | inl this ↦
          let out : filter (λ x. not (key x == physical)) (x ∷ xs) ≡ left = rw this.0 refl in
          elim (eqb_tells other physical) [
            | inl same ↦ ap (count_by (λ x. key x == other)) out ∙ rest ∙ (rw same.0 refl)
            | inr apart ↦
                let differs : (key x == other) ≡ false = ne_eqb _ _ (λ e. apart.1 (sym e ∙ this.1)) in
                ap (count_by (λ x. key x == other)) out ∙ rest ∙ ap (λ n. if other == physical then 0 else n) (sym (counted_no (λ x. key x == other) x xs differs))
          ]
      | inr stays ↦
          let kept : filter (λ x. not (key x == physical)) (x ∷ xs) ≡ x ∷ left = rw stays.0 refl in
          elim (cases_Bool (key x == other)) [
            | inl counts ↦
                let apart : (other == physical) ≡ false = ne_eqb _ _ (λ e. stays.1 (eqb-true _ _ counts ∙ e)) in
                let before : count_by (λ x. key x == other) left ≡ count_by (λ x. key x == other) xs = rest ∙ ap (λ b. if b then 0 else count_by (λ x. key x == other) xs) apart in
                ap (count_by (λ x. key x == other)) kept ∙ counted_yes (λ x. key x == other) x left counts ∙ ap (λ n. n + 1) before
                ∙ sym (counted_yes (λ x. key x == other) x xs counts) ∙ sym (ap (λ b. if b then 0 else count_by (λ x. key x == other) (x ∷ xs)) apart)
            | inr passes ↦
                ap (count_by (λ x. key x == other)) kept ∙ counted_no (λ x. key x == other) x left passes ∙ rest
                ∙ ap (λ n. if other == physical then 0 else n) (sym (counted_no (λ x. key x == other) x xs passes))
          ]
    ]

none_counted : {X : Type 0} (key : X → ℕ) (physical : ℕ) (xs : List X) → list_any (λ x. key x == physical) xs ≡ false → count_by (λ x. key x == physical) xs ≡ 0
none_counted key physical [] none = refl
none_counted key physical (x ∷ xs) none =
    let p = or_parts (key x == physical) (list_any (λ x. key x == physical) xs) none in
    counted_no (λ x. key x == physical) x xs p.0 ∙ none_counted key physical xs p.1

none_filtered : {X : Type 0} (key : X → ℕ) (physical : ℕ) (xs : List X) → count_by (λ x. key x == physical) xs ≡ 0 → filter (λ x. not (key x == physical)) xs ≡ xs
none_filtered key physical [] none = refl
none_filtered key physical (x ∷ xs) none =
    elim (cases_Bool (key x == physical)) [
      | inl this ↦ absurd (omega (arith, none, counted_yes (λ x. key x == physical) x xs this))
      | inr other ↦ rw other (ap (λ rest. x ∷ rest) (none_filtered key physical xs (sym (counted_no (λ x. key x == physical) x xs other) ∙ none)))
    ]

-- ---- what is given, used and lost

pub IsIndex-none : AreNumbersOf [] []
IsIndex-none = record { same_length = refl; same_counts = λ physical. refl }

pub IsIndex-add : (numbers more : List ℕ) (packets : List Held) (b : Held) → AreNumbersOf numbers packets → IsPermutation (b.physical ∷ numbers) more → AreNumbersOf more (b ∷ packets)
IsIndex-add numbers more packets b h moved = record {
  same_length = omega (arith, length_permutation (b.physical ∷ numbers) more moved, h.same_length);
  same_counts = λ physical.
      sum_by-IsPermutation (λ other. cond (other == physical) 1 0) (b.physical ∷ numbers) more moved
      ∙ sum_by-cons (λ other. cond (other == physical) 1 0) b.physical numbers
      ∙ ap (λ n. cond (b.physical == physical) 1 0 + n) (h.same_counts physical)
      ∙ sym (sum_by-cons (λ b. cond (b.physical == physical) 1 0) b packets);
}

pub IsIndex-remove : (numbers fewer : List ℕ) (packets rest : List Held) (b : Held) → AreNumbersOf numbers packets → IsPermutation packets (b ∷ rest)
    → (list_any (λ other. other == b.physical) numbers ≡ true → IsPermutation numbers (b.physical ∷ fewer)) → AreNumbersOf fewer rest
IsIndex-remove numbers fewer packets rest b h moved taken =
    let count : ℕ → Held → ℕ = λ physical b. cond (b.physical == physical) 1 0 in
    let own : (b.physical == b.physical) ≡ true = eq-eqb _ _ refl in
    let here : count_by (λ (x : Held). x.physical == b.physical) packets ≡ count_by (λ (x : Held). x.physical == b.physical) rest + 1 =
    sym (sum_by-IsPermutation (count b.physical) packets (b ∷ rest) moved) ∙ counted_yes (λ (x : Held). x.physical == b.physical) b rest own in
    let present : list_any (λ other. other == b.physical) numbers ≡ true = elim (cases_Bool (list_any (λ other. other == b.physical) numbers)) [
      | inl is ↦ is
      | inr isnt ↦ absurd (omega (arith, here, h.same_counts b.physical, none_counted (λ other. other) b.physical numbers isnt))
    ] in
    let out = taken present in
    record {
      same_length = omega (arith, h.same_length, length_permutation numbers (b.physical ∷ fewer) out, length_permutation packets (b ∷ rest) moved);
      same_counts = λ physical. omega (
        arith,
        h.same_counts physical,
        sum_by-IsPermutation (λ other. cond (other == physical) 1 0) numbers (b.physical ∷ fewer) out,
        sum_by-cons (λ other. cond (other == physical) 1 0) b.physical fewer,
        sum_by-IsPermutation (count physical) packets (b ∷ rest) moved,
        sum_by-cons (count physical) b rest,
      );
    }

pub IsIndex-lose : (numbers : List ℕ) (packets : List Held) (physical : ℕ) → AreNumbersOf numbers packets
    → AreNumbersOf (filter (λ other. not (other == physical)) numbers) (filter (λ b. not (b.physical == physical)) packets)
IsIndex-lose numbers packets physical h = record {
  same_length = omega (
    arith,
    h.same_length,
    h.same_counts physical,
    length-filter_both (λ other. other == physical) (λ other. not (other == physical)) (λ x. refl) numbers,
    length-filter (λ other. other == physical) numbers,
    length-filter_both (λ (b : Held). b.physical == physical) (λ b. not (b.physical == physical)) (λ x. refl) packets,
    length-filter (λ (b : Held). b.physical == physical) packets,
  );
  same_counts = λ other.
      without (λ other. other) physical other numbers
      ∙ ap (λ n. if other == physical then 0 else n) (h.same_counts other)
      ∙ sym (without (λ (b : Held). b.physical) physical other packets);
}

pub none_lost : (numbers : List ℕ) (packets : List Held) (physical : ℕ) → AreNumbersOf numbers packets → list_any (λ other. other == physical) numbers ≡ false
    → filter (λ b. not (b.physical == physical)) packets ≡ packets
none_lost numbers packets physical h none =
    none_filtered (λ b. b.physical) physical packets (sym (h.same_counts physical) ∙ none_counted (λ other. other) physical numbers none)
