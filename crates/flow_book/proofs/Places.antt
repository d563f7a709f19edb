-- What the place of a pair says of a book in order.
use Rattle.std.proofs.Common.{ℕ, ◌≡◌, ◌≢◌, ◌<◌, not, List, [], ◌∷◌, zero, suc, length, get_or, set, map, Bool, Some, None, Result, Ok, Err, IfOk, IfErr, refl, sym, ap, subst, ◌∙◌, arith, true, false, if◌then◌else◌, inl, inr}
use Rattle.std.specs.Prelude.{filter, find, All, is_ok}
use Rattle.std.specs.List.{insert, remove, AllByRecursion}
use Rattle.std.specs.List.Sorted.{IsStrictlySortedBy}
use Rattle.std.specs.declared.cmp.Ordering.TheVariants.{Less, Equal, Greater}
use Rattle.std.proofs.lemmas.Bool.{cases_Bool, cases_lt}
use Rattle.std.proofs.lemmas.List.Elements.{All-head, All-tail, All-cons, All-map, All-weaker, All-filter, All-from_recursion, recursion_from_All}
use Rattle.std.proofs.lemmas.List.Kept.{IsStrictlySortedBy-filter}
use Rattle.std.specs.Ordering.{ordering_reverse}
use Rattle.std.proofs.lemmas.List.Folds.{list_any_at, list_any_none}
use Rattle.std.proofs.lemmas.List.Sorted.{All-permutation, IsPermutation-insert}
use Rattle.std.proofs.lemmas.Cmp.{alike_right}
use Rattle.std.proofs.lemmas.Map.Keys.{Less-from_sorted}
use Rattle.of10_model.specs.declared.pattern.Pattern.{Pattern}
use Rattle.of10_model.specs.Normal.{IsNormal}
use Rattle.of10_model.specs.Spelling.{Spell}
use Rattle.flow_book.specs.declared.booked.Booked.{Booked}
use Rattle.flow_book.specs.Order.{stands_to, order, ArePairsInOrder, IsPairAt, IsGapFor}
use Rattle.flow_book.specs.Books.{is_pair, is_booked, without}
use Rattle.flow_book.specs.Adding.{with_asked}
use Rattle.flow_book.proofs.Order.{key_of, key_cmp_total}
use Rattle.flow_book.proofs.SamePairs.{pair-Equal, Equal-pair, other-Less, other-Greater}

-- the element at a place has the pair
pub pair_at : (xs : List Booked) (m : Pattern) (p i : ℕ) → ArePairsInOrder xs → IsNormal m → IsPairAt xs m p i → (d : Booked) → is_pair m p (get_or xs i d) ≡ true
pair_at xs m p i h nm at d = pair-Equal m p (get_or xs i d) nm (h.normal i d at.in_range) (at.has_pair d)

pub is_booked-at : (xs : List Booked) (m : Pattern) (p i : ℕ) → ArePairsInOrder xs → IsNormal m → IsPairAt xs m p i → is_booked m p xs ≡ true
is_booked-at [] m p i h nm at = absurd (omega (arith, at.in_range))
is_booked-at (x ∷ xs) m p i h nm at = list_any_at (is_pair m p) (x ∷ xs) i x at.in_range (pair_at (x ∷ xs) m p i h nm at x)

-- no element beside a gap has the pair
pub none_beside : (xs : List Booked) (m : Pattern) (p i : ℕ) → IsGapFor xs m p i → All (λ b. is_pair m p b ≡ false) xs
none_beside xs m p i gap k d lt = elim (cases_lt k i) [
  | inl below ↦ other-Less m p (get_or xs k d) (gap.lower_before k d (omega arith) below)
  | inr above ↦ other-Greater m p (get_or xs k d) (gap.higher_after k d above lt)
]

pub is_booked-gap : (xs : List Booked) (m : Pattern) (p i : ℕ) → IsGapFor xs m p i → is_booked m p xs ≡ false
is_booked-gap xs m p i gap = list_any_none (is_pair m p) xs (none_beside xs m p i gap)

pub is_booked-place : (xs : List Booked) (m : Pattern) (p : ℕ) (r : Result ℕ ℕ) → ArePairsInOrder xs → IsNormal m → IfOk r (IsPairAt xs m p) → IfErr r (IsGapFor xs m p) → is_ok r ≡ is_booked m p xs
is_booked-place xs m p (Ok i) h nm at gap = sym (is_booked-at xs m p i h nm at)
is_booked-place xs m p (Err i) h nm at gap = sym (is_booked-gap xs m p i gap)

-- ---- one place

Less≢Equal : Less ≡ Equal → ⊥
Less≢Equal e = cc

-- of pairs that ascend no other than the one at a place has its match and priority
pub no_other : (xs : List Booked) (i : ℕ) (m : Pattern) (p : ℕ) → IsStrictlySortedBy order xs → i < length xs → ((d : Booked) → stands_to (get_or xs i d) m p ≡ Equal)
    → (k : ℕ) (d : Booked) → k < length xs → k ≢ i → is_pair m p (get_or xs k d) ≡ false
no_other xs i m p up lt here k d within apart = elim (cases_Bool (is_pair m p (get_or xs k d))) [
  | inr other ↦ other
  | inl same ↦
      let equal : stands_to (get_or xs k d) m p ≡ Equal = Equal-pair m p (get_or xs k d) same in
      elim (cases_lt k i) [
        | inl below ↦
            let less : order (get_or xs k d) (get_or xs i d) ≡ Less = Less-from_sorted order xs k i d up below lt in
            let tied : order (get_or xs k d) (get_or xs i d) ≡ stands_to (get_or xs k d) m p = alike_right key_cmp_total (key_of (get_or xs i d)) (p, Spell m) (key_of (get_or xs k d)) (here d) in
            absurd (Less≢Equal (sym less ∙ tied ∙ equal))
        | inr above ↦
            let less : order (get_or xs i d) (get_or xs k d) ≡ Less = Less-from_sorted order xs i k d up (omega (arith, apart)) within in
            let tied : order (get_or xs i d) (get_or xs k d) ≡ stands_to (get_or xs i d) m p = alike_right key_cmp_total (key_of (get_or xs k d)) (p, Spell m) (key_of (get_or xs i d)) equal in
            absurd (Less≢Equal (sym less ∙ tied ∙ here d))
      ]
]

-- a test that passes at one place of a list alone
pub record PassesAt {X : Type 0} (test : X → Bool) (xs : List X) (i : ℕ) : Type 0 where
  pub in_range : i < length xs
  pub here : (d : X) → test (get_or xs i d) ≡ true
  pub elsewhere : (k : ℕ) (d : X) → k < length xs → k ≢ i → test (get_or xs k d) ≡ false

PassesAt-pair : (xs : List Booked) (m : Pattern) (p i : ℕ) → ArePairsInOrder xs → IsNormal m → IsPairAt xs m p i → PassesAt (is_pair m p) xs i
PassesAt-pair xs m p i h nm at = record {
  in_range = at.in_range;
  here = pair_at xs m p i h nm at;
  elsewhere = no_other xs i m p h.ascending at.in_range at.has_pair;
}

module _ {X : Type 0} (test : X → Bool) where
  passes_tail : (x : X) (xs : List X) (i : ℕ) → PassesAt test (x ∷ xs) (suc i) → PassesAt test xs i
  passes_tail x xs i h = record { in_range = omega (arith, h.in_range); here = h.here; elsewhere = λ k d lt apart. h.elsewhere (suc k) d (omega arith) (λ e. apart (omega arith)) }

  passes_head : (x : X) (xs : List X) (i : ℕ) → PassesAt test (x ∷ xs) (suc i) → test x ≡ false
  passes_head x xs i h = h.elsewhere zero x (omega arith) (λ e. omega arith)

  passes_rest : (x : X) (xs : List X) → PassesAt test (x ∷ xs) zero → All (λ y. test y ≡ false) xs
  passes_rest x xs h k d lt = h.elsewhere (suc k) d (omega arith) (λ e. omega arith)

  pub filter_none : (xs : List X) → All (λ y. test y ≡ false) xs → filter (λ y. not (test y)) xs ≡ xs
  filter_none [] h = refl
  filter_none (x ∷ xs) h = rw (All-head (λ y. test y ≡ false) x xs h, filter_none xs (All-tail (λ y. test y ≡ false) x xs h)) refl

  pub map_none : (f : X → X) (xs : List X) → All (λ y. test y ≡ false) xs → map (λ y. if test y then f y else y) xs ≡ xs
  map_none f [] h = refl
  map_none f (x ∷ xs) h = rw (All-head (λ y. test y ≡ false) x xs h, map_none f xs (All-tail (λ y. test y ≡ false) x xs h)) refl

  pub remove_one : (xs : List X) (i : ℕ) → PassesAt test xs i → remove xs i ≡ filter (λ y. not (test y)) xs
  remove_one [] i h = absurd (omega (arith, h.in_range))
  remove_one (x ∷ xs) zero h = rw (h.here x, filter_none xs (passes_rest x xs h)) refl
  remove_one (x ∷ xs) (suc i) h = rw (passes_head x xs i h) (ap (λ l. x ∷ l) (remove_one xs i (passes_tail x xs i h)))

  pub set_one : (f : X → X) (xs : List X) (i : ℕ) (d : X) → PassesAt test xs i → set xs i (f (get_or xs i d)) ≡ map (λ y. if test y then f y else y) xs
  set_one f [] i d h = absurd (omega (arith, h.in_range))
  set_one f (x ∷ xs) zero d h = rw (h.here x, map_none f xs (passes_rest x xs h)) refl
  set_one f (x ∷ xs) (suc i) d h = rw (passes_head x xs i h) (ap (λ l. x ∷ l) (set_one f xs i d (passes_tail x xs i h)))

  pub find_one : (xs : List X) (i : ℕ) (x : X) → x ≡ get_or xs i x → PassesAt test xs i → find test xs ≡ Some x
  find_one [] i x at h = absurd (omega (arith, h.in_range))
  find_one (y ∷ ys) zero x at h = rw (h.here y) (ap Some (sym at))
  find_one (y ∷ ys) (suc i) x at h = rw (passes_head y ys i h) (find_one ys i x at (passes_tail y ys i h))

  pub find_none : (xs : List X) → All (λ y. test y ≡ false) xs → find test xs ≡ None
  find_none [] h = refl
  find_none (x ∷ xs) h = rw (All-head (λ y. test y ≡ false) x xs h) (find_none xs (All-tail (λ y. test y ≡ false) x xs h))

-- ---- what is read and written at the place of a pair

pub find_pair-at : (xs : List Booked) (m : Pattern) (p i : ℕ) (x : Booked) → ArePairsInOrder xs → IsNormal m → IsPairAt xs m p i → x ≡ get_or xs i x → find (is_pair m p) xs ≡ Some x
find_pair-at xs m p i x h nm at is = find_one (is_pair m p) xs i x is (PassesAt-pair xs m p i h nm at)

pub find_pair-gap : (xs : List Booked) (m : Pattern) (p i : ℕ) → IsGapFor xs m p i → find (is_pair m p) xs ≡ None
find_pair-gap xs m p i gap = find_none (is_pair m p) xs (none_beside xs m p i gap)

pub remove_pair : (xs : List Booked) (m : Pattern) (p i : ℕ) → ArePairsInOrder xs → IsNormal m → IsPairAt xs m p i → remove xs i ≡ without m p xs
remove_pair xs m p i h nm at = remove_one (is_pair m p) xs i (PassesAt-pair xs m p i h nm at)

pub without-gap : (xs : List Booked) (m : Pattern) (p i : ℕ) → IsGapFor xs m p i → without m p xs ≡ xs
without-gap xs m p i gap = filter_none (is_pair m p) xs (none_beside xs m p i gap)

pub set_pair : (xs : List Booked) (m : Pattern) (p i : ℕ) (asked : Bool) (d : Booked) → ArePairsInOrder xs → IsNormal m → IsPairAt xs m p i
    → set xs i (record (get_or xs i d) { asked = asked }) ≡ map (with_asked m p asked) xs
set_pair xs m p i asked d h nm at = set_one (is_pair m p) (λ b. record b { asked = asked }) xs i d (PassesAt-pair xs m p i h nm at)

pub with_asked-gap : (xs : List Booked) (m : Pattern) (p i : ℕ) (asked : Bool) → IsGapFor xs m p i → map (with_asked m p asked) xs ≡ xs
with_asked-gap xs m p i asked gap = map_none (is_pair m p) (λ b. record b { asked = asked }) xs (none_beside xs m p i gap)

-- ---- what stays in order

-- a change that leaves each pair its match and priority
pub record KeepsPairs (f : Booked → Booked) : Type 0 where
  pub keeps_pattern : (b : Booked) → (f b).pattern ≡ b.pattern
  pub keeps_priority : (b : Booked) → (f b).priority ≡ b.priority

same_order : (f : Booked → Booked) → KeepsPairs f → (a b : Booked) → order (f a) (f b) ≡ order a b
same_order f h a b = rw (h.keeps_pattern a, h.keeps_priority a, h.keeps_pattern b, h.keeps_priority b) refl

above-map : (f : Booked → Booked) → KeepsPairs f → (x : Booked) (xs : List Booked) → AllByRecursion (λ y. order x y ≡ Less) xs → AllByRecursion (λ y. order (f x) y ≡ Less) (map f xs)
above-map f h x [] above = tt
above-map f h x (y ∷ ys) above = (same_order f h x y ∙ above.0, above-map f h x ys above.1)

ascending-map : (f : Booked → Booked) → KeepsPairs f → (xs : List Booked) → IsStrictlySortedBy order xs → IsStrictlySortedBy order (map f xs)
unfolding IsStrictlySortedBy
ascending-map f h [] up = tt
ascending-map f h (x ∷ xs) up = (above-map f h x xs up.0, ascending-map f h xs up.1)

pub IsInOrder-map : (f : Booked → Booked) → KeepsPairs f → (xs : List Booked) → ArePairsInOrder xs → ArePairsInOrder (map f xs)
IsInOrder-map f h xs o = record {
  normal = All-map (λ b. IsNormal b.pattern) f xs (All-weaker (λ b. IsNormal b.pattern) (λ b. IsNormal (f b).pattern) (λ b n. subst IsNormal (sym (h.keeps_pattern b)) n) xs o.normal);
  ascending = ascending-map f h xs o.ascending;
}

pub KeepsPairs-with_asked : (m : Pattern) (p : ℕ) (asked : Bool) → KeepsPairs (with_asked m p asked)
KeepsPairs-with_asked m p asked = record {
  keeps_pattern = λ b. elim (cases_Bool (is_pair m p b)) [ inl same ↦ rw same refl | inr other ↦ rw other refl ];
  keeps_priority = λ b. elim (cases_Bool (is_pair m p b)) [ inl same ↦ rw same refl | inr other ↦ rw other refl ];
}

pub IsInOrder-filter : (test : Booked → Bool) (xs : List Booked) → ArePairsInOrder xs → ArePairsInOrder (filter test xs)
IsInOrder-filter test xs o = record {
  normal = All-filter test (λ b. IsNormal b.pattern) xs o.normal;
  ascending = IsStrictlySortedBy-filter order test xs o.ascending;
}

All-insert : (P : Booked → Type 0) (xs : List Booked) (i : ℕ) (y : Booked) → P y → All P xs → All P (insert xs i y)
All-insert P xs i y here all = All-permutation P (y ∷ xs) (insert xs i y) (IsPermutation-insert xs i y) (All-cons P y xs here all)

pub turned : (a b : Booked) → order a b ≡ Greater → order b a ≡ Less
turned a b e = key_cmp_total.antisymm (key_of b) (key_of a) ∙ ap ordering_reverse e

ascending-insert : (xs : List Booked) (i : ℕ) (y : Booked) → IsStrictlySortedBy order xs → IsGapFor xs y.pattern y.priority i → IsStrictlySortedBy order (insert xs i y)
unfolding IsStrictlySortedBy
ascending-insert [] zero y up gap = (tt, tt)
ascending-insert [] (suc i) y up gap = absurd (omega (arith, gap.in_range))
ascending-insert (x ∷ xs) zero y up gap =
    (recursion_from_All (λ b. order y b ≡ Less) (x ∷ xs) (λ k d lt. turned (get_or (x ∷ xs) k d) y (gap.higher_after k d (omega arith) lt)), up)
ascending-insert (x ∷ xs) (suc i) y up gap =
    let rest : IsGapFor xs y.pattern y.priority i = record {
      in_range = omega (arith, gap.in_range);
      lower_before = λ k d le lt. gap.lower_before (suc k) d (omega arith) (omega arith);
      higher_after = λ k d le lt. gap.higher_after (suc k) d (omega arith) (omega arith);
    } in
    let above = All-insert (λ b. order x b ≡ Less) xs i y (gap.lower_before zero x (omega arith) (omega arith)) (All-from_recursion (λ b. order x b ≡ Less) xs up.0) in
    (recursion_from_All (λ b. order x b ≡ Less) (insert xs i y) above, ascending-insert xs i y up.1 rest)

pub IsInOrder-insert : (xs : List Booked) (i : ℕ) (y : Booked) → ArePairsInOrder xs → IsNormal y.pattern → IsGapFor xs y.pattern y.priority i → ArePairsInOrder (insert xs i y)
IsInOrder-insert xs i y o n gap = record {
  normal = All-insert (λ b. IsNormal b.pattern) xs i y n o.normal;
  ascending = ascending-insert xs i y o.ascending gap;
}
