-- The first fault along a list, and the first element that passes a test, by their places.
use Rattle.std.proofs.Common.{◌≡◌, ℕ, zero, suc, ◌<◌, Bool, true, false, List, [], ◌∷◌, ◌++◌, length, get_or, take, find, refl, sym, ◌∙◌, arith, inl, inr, Option, Some, None, option_map, append_assoc}
use Rattle.std.specs.Option.{option_or}
use Rattle.std.proofs.lemmas.Bool.{cases_Bool, cond-true, cond-false}
use Rattle.std.proofs.lemmas.List.{append-nil}
use Rattle.flowspace.specs.declared.fault.PolicyFault.{PolicyFault}
use Rattle.flowspace.specs.Loading.{first_along}

pub option_or-None : {A : Type 0} (o p : Option A) → option_or o p ≡ None → (o ≡ None) × (p ≡ None)
option_or-None None p e = (refl, e)
option_or-None (Some x) p e = absurd (cc)

pub option_map-None : {A B : Type 0} (f : A → B) (o : Option A) → option_map f o ≡ None → o ≡ None
option_map-None f None e = refl
option_map-None f (Some x) e = absurd (cc)

-- no element has a fault where there is no first one
pub none_along : {A : Type 0} (check : List A → A → Option PolicyFault) (before xs : List A) → first_along check before xs ≡ None
    → (k : ℕ) (d : A) → k < length xs → check (before ++ take k xs) (get_or xs k d) ≡ None
none_along check before [] e k d lt = absurd (omega arith)
none_along check before (x ∷ xs) e zero d lt = rw (append-nil before) (option_or-None (check before x) (first_along check (before ++ x ∷ []) xs) e).0
none_along check before (x ∷ xs) e (suc k) d lt =
    let deeper = none_along check (before ++ x ∷ []) xs (option_or-None (check before x) (first_along check (before ++ x ∷ []) xs) e).1 k d (omega arith) in
    rw (append_assoc before (x ∷ []) (take k xs)) at deeper

-- there is no first fault where no element has one
pub along_none : {A : Type 0} (check : List A → A → Option PolicyFault) (before xs : List A)
    → ((k : ℕ) (d : A) → k < length xs → check (before ++ take k xs) (get_or xs k d) ≡ None)
    → first_along check before xs ≡ None
along_none check before [] each = refl
along_none check before (x ∷ xs) each =
    let first : check before x ≡ None = rw (append-nil before) at (each zero x (omega arith)) in
    let rest = along_none check (before ++ x ∷ []) xs (λ k d lt. rw (append_assoc before (x ∷ []) (take k xs)) (each (suc k) d (omega arith))) in
    rw (first, rest) refl

-- the first fault: the place of its element, the element and the fault, and that no earlier element has one
pub record FaultAt {A : Type 0} (check : List A → A → Option PolicyFault) (before xs : List A) (fault : PolicyFault) : Type 0 where
  pub place : ℕ
  pub element : A
  pub within : place < length xs
  pub is_there : get_or xs place element ≡ element
  pub has_fault : check (before ++ take place xs) element ≡ Some fault
  pub is_first : (k : ℕ) (d : A) → k < place → check (before ++ take k xs) (get_or xs k d) ≡ None

none_before : {A : Type 0} (check : List A → A → Option PolicyFault) (before : List A) (x : A) (xs : List A) (place : ℕ) → check before x ≡ None
    → ((k : ℕ) (d : A) → k < place → check ((before ++ x ∷ []) ++ take k xs) (get_or xs k d) ≡ None)
    → (k : ℕ) (d : A) → k < suc place → check (before ++ take k (x ∷ xs)) (get_or (x ∷ xs) k d) ≡ None
none_before check before x xs place none later zero d lt = rw (append-nil before) none
none_before check before x xs place none later (suc k) d lt = rw (append_assoc before (x ∷ []) (take k xs)) at (later k d (omega arith))

first_or_later : {A : Type 0} (check : List A → A → Option PolicyFault) (before : List A) (x : A) (xs : List A) (fault : PolicyFault) (o : Option PolicyFault)
    → check before x ≡ o → option_or o (first_along check (before ++ x ∷ []) xs) ≡ Some fault
    → (first_along check (before ++ x ∷ []) xs ≡ Some fault → FaultAt check (before ++ x ∷ []) xs fault)
    → FaultAt check before (x ∷ xs) fault
first_or_later check before x xs fault None e some later =
    let found = later some in
    record {
      place = suc found.place;
      element = found.element;
      within = let lt = found.within in omega arith;
      is_there = found.is_there;
      has_fault = rw (append_assoc before (x ∷ []) (take found.place xs)) at found.has_fault;
      is_first = none_before check before x xs found.place e found.is_first;
    }
first_or_later check before x xs fault (Some own) e some later =
    record {
      place = zero;
      element = x;
      within = omega arith;
      is_there = refl;
      has_fault = rw (append-nil before) (e ∙ some);
      is_first = λ k d lt. absurd (omega arith);
    }

-- the first fault is one of some element
pub some_along : {A : Type 0} (check : List A → A → Option PolicyFault) (before xs : List A) (fault : PolicyFault) → first_along check before xs ≡ Some fault → FaultAt check before xs fault
some_along check before [] fault e = absurd (cc)
some_along check before (x ∷ xs) fault e =
    first_or_later check before x xs fault (check before x) refl e (λ later. some_along check (before ++ x ∷ []) xs fault later)

-- ---- find

later_None : {A : Type 0} (p : A → Bool) (x : A) (xs : List A) → p x ≡ false → ((k : ℕ) (d : A) → k < length xs → p (get_or xs k d) ≡ false) → (k : ℕ) (d : A) → k < length (x ∷ xs) → p (get_or (x ∷ xs) k d) ≡ false
later_None p x xs fails later zero d lt = fails
later_None p x xs fails later (suc k) d lt = later k d (omega arith)

pub find-None : {A : Type 0} (p : A → Bool) (xs : List A) → find p xs ≡ None → (k : ℕ) (d : A) → k < length xs → p (get_or xs k d) ≡ false
find-None p [] e k d lt = absurd (omega arith)
find-None p (x ∷ xs) e k d lt =
    elim (cases_Bool (p x)) [
      | inl passes ↦ let clash = sym (cond-true (p x) (Some x) (find p xs) passes) ∙ e in absurd (cc)
      | inr fails ↦ later_None p x xs fails (find-None p xs (sym (cond-false (p x) (Some x) (find p xs) fails) ∙ e)) k d lt
    ]

pub None-find : {A : Type 0} (p : A → Bool) (xs : List A) → ((k : ℕ) (d : A) → k < length xs → p (get_or xs k d) ≡ false) → find p xs ≡ None
None-find p [] each = refl
None-find p (x ∷ xs) each =
    cond-false (p x) (Some x) (find p xs) (each zero x (omega arith)) ∙ None-find p xs (λ k d lt. each (suc k) d (omega arith))

-- the first element that passes: its place, that it passes, and that none before it does
pub record FoundAt {A : Type 0} (p : A → Bool) (xs : List A) (x : A) : Type 0 where
  pub place : ℕ
  pub within : place < length xs
  pub is_there : (d : A) → get_or xs place d ≡ x
  pub passes : p x ≡ true
  pub is_first : (k : ℕ) (d : A) → k < place → p (get_or xs k d) ≡ false

later_first : {A : Type 0} (p : A → Bool) (x : A) (xs : List A) (place : ℕ) → p x ≡ false → ((k : ℕ) (d : A) → k < place → p (get_or xs k d) ≡ false) → (k : ℕ) (d : A) → k < suc place → p (get_or (x ∷ xs) k d) ≡ false
later_first p x xs place fails later zero d lt = fails
later_first p x xs place fails later (suc k) d lt = later k d (omega arith)

pub find-Some : {A : Type 0} (p : A → Bool) (xs : List A) (x : A) → find p xs ≡ Some x → FoundAt p xs x
find-Some p [] x e = absurd (cc)
find-Some p (y ∷ xs) x e =
    elim (cases_Bool (p y)) [
      | inl passes ↦
          let same : Some y ≡ Some x = sym (cond-true (p y) (Some y) (find p xs) passes) ∙ e in
          let is : y ≡ x = cc in
          record {
            place = zero;
            within = omega arith;
            is_there = λ d. is;
            passes = rw (← is) passes;
            is_first = λ k d lt. absurd (omega arith);
          }
      | inr fails ↦
          let found = find-Some p xs x (sym (cond-false (p y) (Some y) (find p xs) fails) ∙ e) in
          record {
            place = suc found.place;
            within = let lt = found.within in omega arith;
            is_there = found.is_there;
            passes = found.passes;
            is_first = later_first p y xs found.place fails found.is_first;
          }
    ]
