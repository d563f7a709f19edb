-- Rules whose priorities are their places from the end.
use Rattle.std.proofs.Common.{◌≡◌, ℕ, ◌≤◌, List, [], ◌∷◌, length, All, Any, AllPairs, refl, sym, subst, arith, inl, inr}
use Rattle.std.proofs.lemmas.List.Elements.{All-nil, All-cons, All-head, All-tail}
use Rattle.std.proofs.lemmas.List.Kept.{AllPairs-cons}
use Rattle.std.proofs.lemmas.List.Sorted.{IsPermutation-refl, All-permutation}
use Rattle.of10_model.proofs.Pairs.{AllPairs-nil, AllPairs-head, AllPairs-tail}
use Rattle.flowspace.specs.declared.rules.Rule.{Rule}
use Rattle.flowspace.specs.Rules.{Yields}
use Rattle.flowspace.specs.Order.{in_order, HasNoLower, IsAccepted}
use Rattle.flowspace.specs.Policies.{PolicyView}
use Rattle.flowspace.proofs.Ordering.{in_order-from_IsRuleOrder, IsPermutation-in_order}
use Rattle.flowmod_expand.proofs.Somewhere.{Any-first, Any-later, Any-cases, Any-nil}
use Rattle.nested_slices.specs.Flat.{numbered, by_place, divided, division_of, flat}
use Rattle.nested_slices.specs.Space.{HasWriter, IsDivisible}
use Rattle.nested_slices.proofs.Yielding.{within_numbered, shares, divided_yield}

-- ---- rule order

placed_below : (n : ℕ) (rs : List Rule) → length rs ≤ n → All (λ r. r.priority ≤ n) (by_place rs)
placed_below n [] le = All-nil (λ (r : Rule). r.priority ≤ n)
placed_below n (r ∷ rest) le = All-cons (λ (r : Rule). r.priority ≤ n) (numbered (length rest) r) (by_place rest) (omega arith) (placed_below n rest (omega arith))

pub descends : (rs : List Rule) → AllPairs HasNoLower (by_place rs)
descends [] = AllPairs-nil HasNoLower
descends (r ∷ rest) = AllPairs-cons HasNoLower (numbered (length rest) r) (by_place rest) (placed_below (length rest) rest (omega arith)) (descends rest)

pub in_order-by_place : (rs : List Rule) → in_order (by_place rs) ≡ by_place rs
in_order-by_place rs =
    sym (in_order-from_IsRuleOrder (by_place rs) (by_place rs) (record {
      same_rules = IsPermutation-refl (by_place rs);
      descending = descends rs;
      file_order = λ priority. refl;
    }))

-- ---- acceptance

numbered_yields : (n m : ℕ) (a b : Rule) → Yields a b → Yields (numbered n a) (numbered m b)
numbered_yields n m a b yields = λ share slot written. yields (shares (numbered n a) (numbered m b) a b (within_numbered n a) (within_numbered m b) share) slot written

All-by_place : (n : ℕ) (a : Rule) (rs : List Rule) → All (Yields a) rs → All (Yields (numbered n a)) (by_place rs)
All-by_place n a [] all = All-nil (Yields (numbered n a))
All-by_place n a (r ∷ rest) all =
    All-cons (Yields (numbered n a)) (numbered (length rest) r) (by_place rest) (numbered_yields n (length rest) a r (All-head (Yields a) r rest all)) (All-by_place n a rest (All-tail (Yields a) r rest all))

by_place_yield : (rs : List Rule) → AllPairs Yields rs → AllPairs Yields (by_place rs)
by_place_yield [] pairs = AllPairs-nil Yields
by_place_yield (r ∷ rest) pairs =
    AllPairs-cons Yields (numbered (length rest) r) (by_place rest) (All-by_place (length rest) r rest (AllPairs-head Yields r rest pairs)) (by_place_yield rest (AllPairs-tail Yields r rest pairs))

pub accepted : (outer : PolicyView) (slot : ℕ) (inner : PolicyView) → IsDivisible outer slot inner → IsAccepted (flat outer slot inner).rules
unfolding flat
accepted outer slot inner is =
    let d = division_of outer slot inner in
    let written = All-permutation HasWriter inner.rules (in_order inner.rules) (IsPermutation-in_order inner.rules) is.written in
    let rules = divided d (in_order outer.rules) in
    subst (AllPairs Yields) (sym (in_order-by_place rules)) (by_place_yield rules (divided_yield d (in_order outer.rules) is.inner_policy.accepted written is.outer_policy.accepted))

-- ---- some rule

pub Any-by_place : (P : Rule → Type 0) → ((n : ℕ) (r : Rule) → P (numbered n r) → P r) → (rs : List Rule) → Any P (by_place rs) → Any P rs
Any-by_place P same [] some = absurd (Any-nil P some)
Any-by_place P same (r ∷ rest) some =
    elim (Any-cases P (numbered (length rest) r) (by_place rest) some) [
      | inl here ↦ Any-first P r rest (same (length rest) r here)
      | inr later ↦ Any-later P r rest (Any-by_place P same rest later)
    ]

pub by_place-Any : (P : Rule → Type 0) → ((n : ℕ) (r : Rule) → P r → P (numbered n r)) → (rs : List Rule) → Any P rs → Any P (by_place rs)
by_place-Any P same [] some = absurd (Any-nil P some)
by_place-Any P same (r ∷ rest) some =
    elim (Any-cases P r rest some) [
      | inl here ↦ Any-first P (numbered (length rest) r) (by_place rest) (same (length rest) r here)
      | inr later ↦ Any-later P (numbered (length rest) r) (by_place rest) (by_place-Any P same rest later)
    ]
