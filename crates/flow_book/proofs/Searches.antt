-- Where a pair stands in a book in order, and what shares a header with pieces of a flow-mod.
use Rattle.std.proofs.Common.{ℕ, ◌≡◌, ◌≢◌, ◌+◌, ◌<◌, ◌≤◌, ◌==◌, ◌&&◌, ◌||◌, ◌⊎◌, not, List, [], ◌∷◌, zero, suc, length, get_or, replicate, Bool, refl, sym, ap, subst, ◌∙◌, arith, true, false, inl, inr}
use Rattle.std.specs.Prelude.{All}
use Rattle.std.specs.List.{list_any, AllWithin}
use Rattle.std.specs.List.Sorted.{IsStrictlySortedBy}
use Rattle.std.specs.declared.cmp.Ordering.{Ordering}
use Rattle.std.specs.declared.cmp.Ordering.TheVariants.{Less, Equal, Greater}
use Rattle.std.specs.Ordering.{nat_cmp, ordering_then, is_lt, is_eq}
use Rattle.std.specs.Cmp.Lexicographic.{slice_cmp}
use Rattle.std.proofs.lemmas.Bool.{cases_Bool, cases_lt, both_ways, ne_eqb}
use Rattle.std.proofs.lemmas.Cmp.{ranked, alike_right}
use Rattle.std.proofs.lemmas.Map.Keys.{Less-from_sorted}
use Rattle.of10_model.specs.declared.pattern.Pattern.{Pattern}
use Rattle.of10_model.specs.Meet.{is_disjoint}
use Rattle.of10_model.specs.Spelling.{Spell}
use Rattle.flow_book.specs.declared.booked.Booked.{Booked}
use Rattle.flow_book.specs.Order.{order, IsPairAt, IsGapFor}
use Rattle.flow_book.specs.Books.{overlaps_in}
use Rattle.flow_book.proofs.Order.{key_of, key_cmp_total}

-- how a pair stands to one of a priority whose match is spelled so
abbrev pub stands : ℕ → List ℕ → Booked → Ordering
stands p spelling b = ordering_then (nat_cmp b.priority p) (slice_cmp nat_cmp (Spell b.pattern) spelling)

lt-Less : (o : Ordering) → is_lt o ≡ true → o ≡ Less
lt-Less Less e = refl
lt-Less Equal e = cc
lt-Less Greater e = cc

cases_Ordering : (o : Ordering) → (o ≡ Less) ⊎ ((o ≡ Equal) ⊎ (o ≡ Greater))
cases_Ordering Less = inl refl
cases_Ordering Equal = inr (inl refl)
cases_Ordering Greater = inr (inr refl)

module _ (xs : List Booked) (up : IsStrictlySortedBy order xs) (p : ℕ) (spelling : List ℕ) where
  lower_before : (i k : ℕ) (d : Booked) → i < k → k < length xs → stands p spelling (get_or xs k d) ≡ Less → stands p spelling (get_or xs i d) ≡ Less
  lower_before i k d lt within less =
      key_cmp_total.trans (key_of (get_or xs i d)) (key_of (get_or xs k d)) (p, spelling) (Less-from_sorted order xs i k d up lt within) less

  -- a pair that stands below is behind none that doesn't
  pub below_more : (middle : ℕ) (x : Booked) → middle < length xs → ((d : Booked) → get_or xs middle d ≡ x) → is_lt (stands p spelling x) ≡ true
      → AllWithin (λ b. stands p spelling b ≡ Less) xs 0 (middle + 1)
  below_more middle x within is lt k d le below =
      let here : stands p spelling (get_or xs middle d) ≡ Less = ap (stands p spelling) (is d) ∙ lt-Less (stands p spelling x) lt in
      elim (cases_lt k middle) [
        | inl before ↦ lower_before k middle d before within here
        | inr last ↦ (let same : k ≡ middle = omega arith in ap (λ n. stands p spelling (get_or xs n d)) same ∙ here)
      ]

  pub rest_more : (middle : ℕ) (x : Booked) → middle < length xs → ((d : Booked) → get_or xs middle d ≡ x) → is_lt (stands p spelling x) ≡ false
      → AllWithin (λ b. is_lt (stands p spelling b) ≡ false) xs middle (length xs)
  rest_more middle x within is not_lt k d le below =
      let here : is_lt (stands p spelling (get_or xs middle d)) ≡ false = ap (λ b. is_lt (stands p spelling b)) (is d) ∙ not_lt in
      elim (cases_lt middle k) [
        | inr first ↦ (let same : k ≡ middle = omega arith in ap (λ n. is_lt (stands p spelling (get_or xs n d))) same ∙ here)
        | inl behind ↦ elim (cases_Bool (is_lt (stands p spelling (get_or xs k d)))) [
          | inr other ↦ other
          | inl less ↦ absurd (both_ways (is_lt (stands p spelling (get_or xs middle d))) here (ap is_lt (lower_before middle k d behind below (lt-Less (stands p spelling (get_or xs k d)) less))))
        ]
      ]

  -- from the first that isn't below on all stand above, unless that one is the pair itself
  pub higher_from : (place : ℕ) → AllWithin (λ b. is_lt (stands p spelling b) ≡ false) xs place (length xs)
      → ((d : Booked) → place < length xs → is_eq (stands p spelling (get_or xs place d)) ≡ false) → AllWithin (λ b. stands p spelling b ≡ Greater) xs place (length xs)
  higher_from place rest other k d le below = elim (cases_Ordering (stands p spelling (get_or xs k d))) [
    | inl less ↦ absurd (both_ways (is_lt (stands p spelling (get_or xs k d))) (rest k d le below) (ap is_lt less))
    | inr more ↦ elim more [
      | inr greater ↦ greater
      | inl equal ↦ elim (cases_lt place k) [
        | inr first ↦
            let same : place ≡ k = omega arith in
            absurd (both_ways (is_eq (stands p spelling (get_or xs k d))) (subst (λ n. is_eq (stands p spelling (get_or xs n d)) ≡ false) same (other d (omega arith))) (ap is_eq equal))
        | inl behind ↦
            let less : order (get_or xs place d) (get_or xs k d) ≡ Less = Less-from_sorted order xs place k d up behind below in
            let tied : order (get_or xs place d) (get_or xs k d) ≡ stands p spelling (get_or xs place d) = alike_right key_cmp_total (key_of (get_or xs k d)) (p, spelling) (key_of (get_or xs place d)) equal in
            absurd (both_ways (is_lt (stands p spelling (get_or xs place d))) (rest place d (omega arith) (omega arith)) (ap is_lt (sym tied ∙ less)))
      ]
    ]
  ]

eq-Equal : (o : Ordering) → is_eq o ≡ true → o ≡ Equal
eq-Equal Less e = cc
eq-Equal Equal e = refl
eq-Equal Greater e = cc

-- a search by the spelled match ends at the pair, or at the gap for it
module _ (xs : List Booked) (pattern : Pattern) (p : ℕ) (spelling : List ℕ) (same : spelling ≡ Spell pattern) (place : ℕ) where
  pub found_at : (x : Booked) → place < length xs → ((d : Booked) → get_or xs place d ≡ x) → is_eq (stands p spelling x) ≡ true → IsPairAt xs pattern p place
  found_at x within is equal = record {
    in_range = within;
    has_pair = λ d. subst (λ s. stands p s (get_or xs place d) ≡ Equal) same (ap (stands p spelling) (is d) ∙ eq-Equal (stands p spelling x) equal);
  }

  pub gap_for : IsStrictlySortedBy order xs → place ≤ length xs → AllWithin (λ b. stands p spelling b ≡ Less) xs 0 place → AllWithin (λ b. is_lt (stands p spelling b) ≡ false) xs place (length xs)
      → ((d : Booked) → place < length xs → is_eq (stands p spelling (get_or xs place d)) ≡ false) → IsGapFor xs pattern p place
  gap_for up within below rest other = record {
    in_range = within;
    lower_before = λ k d le lt. subst (λ s. stands p s (get_or xs k d) ≡ Less) same (below k d le lt);
    higher_after = λ k d le lt. subst (λ s. stands p s (get_or xs k d) ≡ Greater) same (higher_from xs up p spelling place rest other k d le lt);
  }

-- ---- the least spelling

from_zero : (x : ℕ) (first then : Ordering) → first ≡ nat_cmp x 0 → is_lt then ≡ false → is_lt (ordering_then first then) ≡ false
from_zero x Less then is out = (let below : x < 0 = ranked x 0 Less is in absurd (omega arith))
from_zero x Equal then is out = out
from_zero x Greater then is out = refl

not_below_zeros : (n : ℕ) (xs : List ℕ) → n ≤ length xs → is_lt (slice_cmp nat_cmp xs (replicate n 0)) ≡ false
not_below_zeros zero [] le = refl
not_below_zeros zero (x ∷ xs) le = refl
not_below_zeros (suc n) [] le = absurd (omega arith)
not_below_zeros (suc n) (x ∷ xs) le = from_zero x (nat_cmp x 0) (slice_cmp nat_cmp xs (replicate n 0)) refl (not_below_zeros n xs (omega arith))

spelled_long : (m : Pattern) → 40 ≤ length (Spell m)
unfolding Spell
spelled_long m = omega arith

first_priority : (a b : ℕ) (first then : Ordering) → first ≡ nat_cmp a b → is_lt then ≡ false → ordering_then first then ≡ Less → a < b
first_priority a b Less then is out e = ranked a b Less is
first_priority a b Equal then is out e = absurd (both_ways (is_lt then) out (ap is_lt e))
first_priority a b Greater then is out e = cc

pub below_priority : (p : ℕ) (b : Booked) → stands p (replicate 40 0) b ≡ Less → b.priority < p
below_priority p b less =
    first_priority b.priority p (nat_cmp b.priority p) (slice_cmp nat_cmp (Spell b.pattern) (replicate 40 0)) refl (not_below_zeros 40 (Spell b.pattern) (spelled_long b.pattern)) less

of_priority : (a b : ℕ) (first then : Ordering) → first ≡ nat_cmp a b → is_lt (ordering_then first then) ≡ false → b ≤ a
of_priority a b Less then is e = cc
of_priority a b Equal then is e = (let same : a ≡ b = ranked a b Equal is in omega arith)
of_priority a b Greater then is e = (let above : b < a = ranked a b Greater is in omega arith)

pub from_priority : (p : ℕ) (b : Booked) → is_lt (stands p (replicate 40 0) b) ≡ false → p ≤ b.priority
from_priority p b not_less = of_priority b.priority p (nat_cmp b.priority p) (slice_cmp nat_cmp (Spell b.pattern) (replicate 40 0)) refl not_less

no_higher : (a b : ℕ) (first then : Ordering) → first ≡ nat_cmp a b → ordering_then first then ≡ Less → a ≤ b
no_higher a b Less then is e = (let below : a < b = ranked a b Less is in omega arith)
no_higher a b Equal then is e = (let same : a ≡ b = ranked a b Equal is in omega arith)
no_higher a b Greater then is e = cc

priorities_rise : (xs : List Booked) → IsStrictlySortedBy order xs → (i k : ℕ) (d : Booked) → i ≤ k → k < length xs → (get_or xs i d).priority ≤ (get_or xs k d).priority
priorities_rise xs up i k d le within = elim (cases_lt i k) [
  | inl below ↦
      let a = get_or xs i d in
      let b = get_or xs k d in
      no_higher a.priority b.priority (nat_cmp a.priority b.priority) (slice_cmp nat_cmp (Spell a.pattern) (Spell b.pattern)) refl (Less-from_sorted order xs i k d up below within)
  | inr not_below ↦ (let same : i ≡ k = omega arith in let e = ap (λ n. (get_or xs n d).priority) same in omega (arith, e))
]

-- ---- overlaps

-- a pair of the priority shares a header with a piece
abbrev pub shares : ℕ → List Pattern → Booked → Bool
shares p ms b = b.priority == p && list_any (λ piece. not (is_disjoint b.pattern piece)) ms

pub shares_not : (p : ℕ) (ms : List Pattern) (b : Booked) → (b.priority ≡ p → ⊥) → shares p ms b ≡ false
shares_not p ms b other = rw (ne_eqb b.priority p other) refl

-- from the first of the priority on, up to one of another, none shares
module _ (xs : List Booked) (up : IsStrictlySortedBy order xs) (p : ℕ) (ms : List Pattern) where
  pub none_below : (place : ℕ) → AllWithin (λ b. stands p (replicate 40 0) b ≡ Less) xs 0 place → AllWithin (λ b. shares p ms b ≡ false) xs 0 place
  none_below place below k d le lt =
      let lower = below_priority p (get_or xs k d) (below k d le lt) in
      shares_not p ms (get_or xs k d) (λ e. omega (arith, lower, e))

  pub none_above : (place i : ℕ) (x : Booked) → place ≤ i → i < length xs → ((d : Booked) → get_or xs i d ≡ x) → (x.priority ≡ p → ⊥)
      → AllWithin (λ b. is_lt (stands p (replicate 40 0) b) ≡ false) xs place (length xs) → AllWithin (λ b. shares p ms b ≡ false) xs 0 i → All (λ b. shares p ms b ≡ false) xs
  none_above place i x le within is other rest before k d lt = elim (cases_lt k i) [
    | inl earlier ↦ before k d (omega arith) earlier
    | inr later ↦
        let least = from_priority p (get_or xs i d) (rest i d le within) in
        let same : (get_or xs i d).priority ≡ x.priority = ap (λ b. b.priority) (is d) in
        let rises = priorities_rise xs up i k d later lt in
        let apart : x.priority ≢ p = other in
        shares_not p ms (get_or xs k d) (λ e. omega (arith, least, same, rises, e, apart))
  ]

four : (a b x y : Bool) → ((a || b) || (x || y)) ≡ ((a || x) || (b || y))
four true b x y = refl
four false true true y = refl
four false true false y = refl
four false false true y = refl
four false false false y = refl

both_or : (t a b : Bool) → (t && (a || b)) ≡ ((t && a) || (t && b))
both_or true a b = refl
both_or false a b = refl

any_none : {X : Type 0} (test : X → Bool) (xs : List X) → list_any (λ x. test x && false) xs ≡ false
any_none test [] = refl
any_none test (x ∷ xs) = elim (cases_Bool (test x)) [
  | inl passes ↦ rw passes (any_none test xs)
  | inr fails ↦ rw fails (any_none test xs)
]

any_or : {X : Type 0} (f g h : X → Bool) → ((x : X) → h x ≡ (f x || g x)) → (xs : List X) → list_any h xs ≡ (list_any f xs || list_any g xs)
any_or f g h e [] = refl
any_or f g h e (x ∷ xs) = rw (e x, any_or f g h e xs) (four (f x) (g x) (list_any f xs) (list_any g xs))

pub overlaps-shares : (ms : List Pattern) (p : ℕ) (xs : List Booked) → list_any (shares p ms) xs ≡ overlaps_in ms p xs
overlaps-shares [] p xs = any_none (λ b. b.priority == p) xs
overlaps-shares (m ∷ ms) p xs =
    any_or (λ b. b.priority == p && not (is_disjoint b.pattern m)) (shares p ms) (shares p (m ∷ ms)) (λ b. both_or (b.priority == p) (not (is_disjoint b.pattern m)) (list_any (λ piece. not (is_disjoint b.pattern piece)) ms)) xs
    ∙ ap (λ r. list_any (λ b. b.priority == p && not (is_disjoint b.pattern m)) xs || r) (overlaps-shares ms p xs)
