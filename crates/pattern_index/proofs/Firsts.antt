-- An index into which the elements of a list are put one after the other, each at its place, finds the first that passes.
use Rattle.std.proofs.Common.{◌≡◌, ℕ, suc, inl, inr, ◌+◌, ◌<◌, ◌||◌, Bool, true, false, cond, List, [], ◌∷◌, ◌++◌, length, get_or, take, min, All, is_some, find, slice_get, Option, Some, None, option_and_then, refl, sym, ap, ◌∙◌, arith}
use Rattle.std.specs.List.{position, position_or_len, position_from, list_any}
use Rattle.std.proofs.lemmas.Bool.{cases_lt, lt-ltb, le-ltb}
use Rattle.std.proofs.lemmas.List.{take_more, length-take-le}
use Rattle.std.proofs.lemmas.List.Elements.{All-head, All-tail}
use Rattle.std.proofs.lemmas.List.Folds.{find_at}
use Rattle.std.proofs.lemmas.Option.{slice_get_past}
use Rattle.std.proofs.lemmas.Iterator.Adapters.{position_from-zero}
use Rattle.of10_model.specs.declared.pattern.Pattern.{Pattern}
use Rattle.of10_model.specs.Inclusion.{includes_of}
use Rattle.pattern_index.specs.declared.index.PatternIndex.{PatternIndex}
use Rattle.pattern_index.specs.Places.{PlacedPattern, StandsFor, FindsFirst}
use Rattle.pattern_index.proofs.Least.{with, one_more}

-- ---- the first of a list

first_stays : (b : Bool) (n k : ℕ) → Some n ≡ with b (n + k) (Some n)
first_stays true n k = let least : n ≡ min (n + k) n = omega arith in ap Some least
first_stays false n k = refl

only_first : (b : Bool) (n : ℕ) → cond b (Some n) None ≡ with b (n + 0) None
only_first true n = let same : n ≡ n + 0 = omega arith in ap Some same
only_first false n = refl

push_behind : (b c : Bool) (n k : ℕ) (old new : Option ℕ) → new ≡ with c (n + 1 + k) old → cond b (Some n) new ≡ with c (n + suc k) (cond b (Some n) old)
push_behind true c n k old new e = first_stays c n (suc k)
push_behind false c n k old new e = let same : n + 1 + k ≡ n + suc k = omega arith in e ∙ ap (λ i. with c i old) same

from_push : {A : Type 0} (p : A → Bool) (n : ℕ) (ys : List A) (y : A) → position_from p n (ys ++ y ∷ []) ≡ with (p y) (n + length ys) (position_from p n ys)
from_push p n [] y = only_first (p y) n
from_push p n (x ∷ ys) y = push_behind (p x) (p y) n (length ys) (position_from p (n + 1) ys) (position_from p (n + 1) (ys ++ y ∷ [])) (from_push p (n + 1) ys y)

position_push : {A : Type 0} (p : A → Bool) (ys : List A) (y : A) → position p (ys ++ y ∷ []) ≡ with (p y) (length ys) (position p ys)
position_push p ys y =
    let same : 0 + length ys ≡ length ys = omega arith in
    position_from-zero p (ys ++ y ∷ []) ∙ from_push p 0 ys y ∙ ap (λ n. with (p y) n (position_from p 0 ys)) same ∙ ap (with (p y) (length ys)) (sym (position_from-zero p ys))

position_more : {A : Type 0} (p : A → Bool) (xs : List A) (i : ℕ) (x : A) → i < length xs → x ≡ get_or xs i x → position p (take (i + 1) xs) ≡ with (p x) i (position p (take i xs))
position_more p xs i x lt at =
    let long : length (take i xs) ≡ i = length-take-le i xs (omega arith) in
    ap (position p) (take_more xs i x lt)
    ∙ ap (λ y. position p (take i xs ++ y ∷ [])) (sym at)
    ∙ position_push p (take i xs) x
    ∙ ap (λ n. with (p x) n (position p (take i xs))) long

none_from : {A : Type 0} (p : A → Bool) (n : ℕ) (xs : List A) → All (λ x. p x ≡ false) xs → position_from p n xs ≡ None
none_from p n [] none = refl
none_from p n (x ∷ xs) none = rw (All-head (λ y. p y ≡ false) x xs none) (none_from p (n + 1) xs (All-tail (λ y. p y ≡ false) x xs none))

-- there is none where no element passes
pub position-none : {A : Type 0} (p : A → Bool) (xs : List A) → All (λ x. p x ≡ false) xs → position p xs ≡ None
position-none p xs none = position_from-zero p xs ∙ none_from p 0 xs none

some_or : (b : Bool) (n : ℕ) (o : Option ℕ) (rest : Bool) → is_some o ≡ rest → is_some (cond b (Some n) o) ≡ (b || rest)
some_or true n o rest e = refl
some_or false n o rest e = e

some_from : {A : Type 0} (p : A → Bool) (n : ℕ) (xs : List A) → is_some (position_from p n xs) ≡ list_any p xs
some_from p n [] = refl
some_from p n (x ∷ xs) = some_or (p x) n (position_from p (n + 1) xs) (list_any p xs) (some_from p (n + 1) xs)

-- and there is one where some element does
pub is_some-position : {A : Type 0} (p : A → Bool) (xs : List A) → is_some (position p xs) ≡ list_any p xs
is_some-position p xs = ap is_some (position_from-zero p xs) ∙ some_from p 0 xs

-- the first element is the one at that place
pub place_of_find : {A : Type 0} (p : A → Bool) (xs : List A) → option_and_then (slice_get xs) (position p xs) ≡ find p xs
place_of_find p xs =
    let n = position_or_len p xs in
    elim (cases_lt n (length xs)) [
      | inl lt ↦ ap (λ b. option_and_then (slice_get xs) (cond b (Some n) None)) (lt-ltb n (length xs) lt) ∙ sym (find_at p xs)
      | inr le ↦ ap (λ b. option_and_then (slice_get xs) (cond b (Some n) None)) (le-ltb n (length xs) le) ∙ sym (find_at p xs ∙ slice_get_past xs n le)
    ]

-- ---- indexes

pub finds_none : {A Q : Type 0} (ask : Q → Pattern) (test : A → Q → Bool) (index : PatternIndex) → StandsFor [] index → FindsFirst ask test [] index
finds_none ask test index stands = record { kept = []; stands = stands; firsts = λ q. refl }

-- an element that is put behind those before it
pub finds_put : {A Q : Type 0} (ask : Q → Pattern) (test : A → Q → Bool) (xs : List A) (i : ℕ) (x : A) (m : Pattern) (old new : PatternIndex) → i < length xs → x ≡ get_or xs i x
    → ((q : Q) → includes_of m (ask q) ≡ test x q)
    → ((kept : List PlacedPattern) → StandsFor kept old → StandsFor (record { pattern = m; place = i } ∷ kept) new)
    → FindsFirst ask test (take i xs) old → FindsFirst ask test (take (i + 1) xs) new
finds_put ask test xs i x m old new lt at agree put before = record {
  kept = record { pattern = m; place = i } ∷ before.kept;
  stands = put before.kept before.stands;
  firsts = λ q.
      sym (one_more m (ask q) i before.kept (includes_of m (ask q)) refl)
      ∙ ap (with (includes_of m (ask q)) i) (before.firsts q)
      ∙ ap (λ b. with b i (position (λ y. test y q) (take i xs))) (agree q)
      ∙ sym (position_more (λ y. test y q) xs i x lt at);
}

-- and one that never passes
pub finds_same : {A Q : Type 0} (ask : Q → Pattern) (test : A → Q → Bool) (xs : List A) (i : ℕ) (x : A) (index : PatternIndex) → i < length xs → x ≡ get_or xs i x → ((q : Q) → test x q ≡ false)
    → FindsFirst ask test (take i xs) index → FindsFirst ask test (take (i + 1) xs) index
finds_same ask test xs i x index lt at never before = record {
  kept = before.kept;
  stands = before.stands;
  firsts = λ q. before.firsts q ∙ ap (λ b. with b i (position (λ y. test y q) (take i xs))) (sym (never q)) ∙ sym (position_more (λ y. test y q) xs i x lt at);
}
