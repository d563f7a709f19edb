-- Slices found by name in a map that is filled from the last one to the first, and slots of which none stands twice.
use Rattle.std.proofs.Common.{◌≡◌, ℕ, suc, ◌+◌, ◌-◌, ◌<◌, ◌≤◌, Bool, true, false, ◌&&◌, ◌||◌, not, cond, true≢false, nat_eq, List, [], ◌∷◌, ◌++◌, length, get_or, take, drop, Option, Some, bytes_eq, refl, sym, ◌∙◌, arith}
use Rattle.std.specs.List.{list_any, position_from}
use Rattle.std.proofs.Math.Seq.{drop-cons}
use Rattle.std.proofs.lemmas.Bool.Decides.{nat_tests}
use Rattle.std.proofs.lemmas.List.{take_more, take-append-drop}
use Rattle.std.proofs.lemmas.List.Folds.{list_any-append}
use Rattle.flowspace.specs.declared.slices.Slice.{Slice}
use Rattle.std.proofs.lemmas.Iterator.Adapters.{position_from-zero}
use Rattle.policy_text.specs.Rules.{are_different}
use Rattle.flowspace.specs.Slices.{slot_named}

-- the slot of a name among the slices from a place on
abbrev pub slot_from : List Slice → ℕ → List ℕ → Option ℕ
slot_from slices at name = position_from (λ s. bytes_eq s.name name) at (drop at slices)

-- one slice more in front
pub slot_from_step : (slices : List Slice) (at : ℕ) (s : Slice) (name : List ℕ) → at < length slices → get_or slices at s ≡ s
    → slot_from slices at name ≡ cond (bytes_eq s.name name) (Some at) (slot_from slices (at + 1) name)
slot_from_step slices at s name within is =
    let next : suc at ≡ at + 1 = omega arith in
    rw (drop-cons slices at s within, is, ← next) refl

-- the slice before those found so far is put in front of them
pub slot_from_put : (slices : List Slice) (at : ℕ) (s : Slice) (name bytes : List ℕ) (before after : Option ℕ) → 1 ≤ at → at ≤ length slices → s ≡ get_or slices (at - 1) s → bytes ≡ s.name
    → before ≡ slot_from slices at name → after ≡ cond (bytes_eq bytes name) (Some (at - 1)) before
    → after ≡ slot_from slices (at - 1) name
slot_from_put slices at s name bytes before after some within is same found put =
    let next : at - 1 + 1 ≡ at = omega arith in
    let step = slot_from_step slices (at - 1) s name (omega arith) (sym is) in
    put ∙ rw (same, found) (sym (rw next at step))

-- all slices are looked through in the end
pub slot_from_whole : (slices : List Slice) (at : ℕ) (name : List ℕ) → at ≤ 0 → slot_from slices at name ≡ slot_named slices name
slot_from_whole slices at name none =
    let zero : at ≡ 0 = omega arith in
    rw zero (sym (position_from-zero (λ s. bytes_eq s.name name) slices))

-- ---- slots of which none stands twice

nat_eq-sym : (x y : ℕ) → nat_eq x y ≡ nat_eq y x
nat_eq-sym x y = grind (arith, nat_tests)

push_tests : (a b c d : Bool) → (not (a || (b || false)) && (c && not d)) ≡ ((not a && c) && not (b || d))
push_tests true b c d = refl
push_tests false true true d = refl
push_tests false true false d = refl
push_tests false false true true = refl
push_tests false false true false = refl
push_tests false false false d = refl

-- one slot more at the end
different_push : (x : ℕ) (xs : List ℕ) → are_different (xs ++ x ∷ []) ≡ (are_different xs && not (list_any (nat_eq x) xs))
different_push x [] = refl
different_push x (slot ∷ xs) =
    rw (list_any-append (nat_eq slot) xs (x ∷ []), different_push x xs, nat_eq-sym x slot) (push_tests (list_any (nat_eq slot) xs) (nat_eq slot x) (are_different xs) (list_any (nat_eq x) xs))

front_tests : (a b c d : Bool) → (c ≡ false → d ≡ false) → (not a && c) ≡ false → (not (a || b) && d) ≡ false
front_tests true b c d h e = refl
front_tests false true c d h e = refl
front_tests false false c d h e = h e

-- where some stand twice, they do so with more behind them
different_front : (xs ys : List ℕ) → are_different xs ≡ false → are_different (xs ++ ys) ≡ false
different_front [] ys e = absurd (true≢false e)
different_front (slot ∷ xs) ys e =
    rw (list_any-append (nat_eq slot) xs ys) (front_tests (list_any (nat_eq slot) xs) (list_any (nat_eq slot) ys) (are_different xs) (are_different (xs ++ ys)) (different_front xs ys) e)

-- a slot that isn't among those before it
different_more : (xs : List ℕ) (i : ℕ) → i < length xs → are_different (take i xs) ≡ true → list_any (nat_eq (get_or xs i 0)) (take i xs) ≡ false → are_different (take (i + 1) xs) ≡ true
different_more xs i lt before new = rw (take_more xs i 0 lt, different_push (get_or xs i 0) (take i xs), before, new) refl

-- a slot that is
different_not : (xs : List ℕ) (i : ℕ) → i < length xs → are_different (take i xs) ≡ true → list_any (nat_eq (get_or xs i 0)) (take i xs) ≡ true → are_different xs ≡ false
different_not xs i lt before old =
    let here : are_different (take (i + 1) xs) ≡ false = rw (take_more xs i 0 lt, different_push (get_or xs i 0) (take i xs), before, old) refl in
    rw (take-append-drop (i + 1) xs) at (different_front (take (i + 1) xs) (drop (i + 1) xs) here)

-- a set of the slots so far says which it is
pub added_more : (xs : List ℕ) (i : ℕ) (added has : Bool) → i < length xs → are_different (take i xs) ≡ true → has ≡ list_any (nat_eq (get_or xs i 0)) (take i xs) → added ≡ not has → added ≡ true
    → are_different (take (i + 1) xs) ≡ true
added_more xs i added true lt before h e new = absurd (true≢false (sym new ∙ e))
added_more xs i added false lt before h e new = different_more xs i lt before (sym h)

pub added_not : (xs : List ℕ) (i : ℕ) (added has : Bool) → i < length xs → are_different (take i xs) ≡ true → has ≡ list_any (nat_eq (get_or xs i 0)) (take i xs) → added ≡ not has → added ≡ false
    → false ≡ are_different xs
added_not xs i added true lt before h e old = sym (different_not xs i lt before (sym h))
added_not xs i added false lt before h e old = absurd (true≢false (sym e ∙ old))
