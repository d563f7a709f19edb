-- Facts of some element of a list.
use Rattle.std.proofs.Common.{◌≡◌, ℕ, zero, suc, ◌+◌, ◌<◌, ◌≤◌, ◌⊎◌, inl, inr, Bool, true, false, List, [], ◌∷◌, length, get_or, map, filter, filter_map, Any, All, Option, Some, None, refl, sym, subst, arith}
use Rattle.std.specs.List.{cons_option}
use Rattle.std.proofs.lemmas.List.Elements.{All-nil, All-cons, All-head, All-tail}
use Rattle.std.proofs.lemmas.Bool.{cases_Bool, cond-true, cond-false}

module _ {A : Type 0} (P : A → Type 0) where
  pub Any-first : (x : A) (xs : List A) → P x → Any P (x ∷ xs)
  Any-first x xs p = (0, x, omega arith, refl, p)

  pub Any-later : (x : A) (xs : List A) → Any P xs → Any P (x ∷ xs)
  Any-later x xs some = (suc some.0, some.1, (let lt = some.2 in omega arith), some.3, some.4)

  at_place : (x : A) (xs : List A) (k : ℕ) (y : A) → k < length (x ∷ xs) → get_or (x ∷ xs) k y ≡ y → P y → P x ⊎ Any P xs
  at_place x xs zero y lt at p = inl (subst P (sym at) p)
  at_place x xs (suc k) y lt at p = inr (k, y, omega arith, at, p)

  pub Any-cases : (x : A) (xs : List A) → Any P (x ∷ xs) → P x ⊎ Any P xs
  Any-cases x xs some = at_place x xs some.0 some.1 some.2 some.3 some.4

  pub Any-nil : Any P [] → ⊥
  Any-nil some = let lt = some.2 in omega arith

-- what follows from a fact of an element holds of some element too
pub Any-weaker : {A : Type 0} (P Q : A → Type 0) (xs : List A) → ((x : A) → P x → Q x) → Any P xs → Any Q xs
Any-weaker P Q xs weaker some = (some.0, some.1, some.2, some.3, weaker some.1 some.4)

-- some element that was kept is one that passes
pub Any-kept : {A : Type 0} (P : A → Type 0) (p : A → Bool) (xs : List A) → Any P (filter p xs) → Any (λ x. (p x ≡ true) × P x) xs
Any-kept P p [] some = absurd (Any-nil P some)
Any-kept {A} P p (x ∷ xs) some =
    let Q = λ (a : A). (p a ≡ true) × P a in
    elim (cases_Bool (p x)) [
      | inl passes ↦
          elim (Any-cases P x (filter p xs) (subst (Any P) (cond-true (p x) (x ∷ filter p xs) (filter p xs) passes) some)) [
            | inl here ↦ Any-first Q x xs (passes, here)
            | inr later ↦ Any-later Q x xs (Any-kept P p xs later)
          ]
      | inr fails ↦ Any-later Q x xs (Any-kept P p xs (subst (Any P) (cond-false (p x) (x ∷ filter p xs) (filter p xs) fails) some))
    ]

pub Any-filter : {A : Type 0} (P : A → Type 0) (p : A → Bool) (xs : List A) → Any P (filter p xs) → Any P xs
Any-filter P p xs some = Any-weaker (λ x. (p x ≡ true) × P x) P xs (λ x both. both.1) (Any-kept P p xs some)

-- and one that passes is kept
kept_first : {A : Type 0} (P : A → Type 0) (p : A → Bool) (x : A) (xs : List A) → p x ≡ true → P x → Any P (filter p (x ∷ xs))
kept_first P p x xs passes here = subst (Any P) (sym (cond-true (p x) (x ∷ filter p xs) (filter p xs) passes)) (Any-first P x (filter p xs) here)

kept_later : {A : Type 0} (P : A → Type 0) (p : A → Bool) (x : A) (xs : List A) → Any P (filter p xs) → Any P (filter p (x ∷ xs))
kept_later P p x xs some =
    elim (cases_Bool (p x)) [
      | inl passes ↦ subst (Any P) (sym (cond-true (p x) (x ∷ filter p xs) (filter p xs) passes)) (Any-later P x (filter p xs) some)
      | inr fails ↦ subst (Any P) (sym (cond-false (p x) (x ∷ filter p xs) (filter p xs) fails)) some
    ]

pub kept-Any : {A : Type 0} (P : A → Type 0) (p : A → Bool) (xs : List A) → Any (λ x. (p x ≡ true) × P x) xs → Any P (filter p xs)
kept-Any P p [] some = absurd (Any-nil (λ a. (p a ≡ true) × P a) some)
kept-Any P p (x ∷ xs) some =
    elim (Any-cases (λ a. (p a ≡ true) × P a) x xs some) [
      | inl here ↦ kept_first P p x xs here.0 here.1
      | inr later ↦ kept_later P p x xs (kept-Any P p xs later)
    ]

-- where some element has a fact, one that has it is kept, or one that has it fails
pub filter-Any : {A : Type 0} (P : A → Type 0) (p : A → Bool) (xs : List A) → Any P xs → Any P (filter p xs) ⊎ ((x : A) × P x × (p x ≡ false))
filter-Any P p [] some = absurd (Any-nil P some)
filter-Any P p (x ∷ xs) some =
    elim (cases_Bool (p x)) [
      | inl passes ↦
          let kept = sym (cond-true (p x) (x ∷ filter p xs) (filter p xs) passes) in
          elim (Any-cases P x xs some) [
            | inl here ↦ inl (subst (Any P) kept (Any-first P x (filter p xs) here))
            | inr later ↦
                elim (filter-Any P p xs later) [
                  | inl some' ↦ inl (subst (Any P) kept (Any-later P x (filter p xs) some'))
                  | inr none ↦ inr none
                ]
          ]
      | inr fails ↦
          elim (Any-cases P x xs some) [
            | inl here ↦ inr (x, here, fails)
            | inr later ↦
                elim (filter-Any P p xs later) [
                  | inl some' ↦ inl (subst (Any P) (sym (cond-false (p x) (x ∷ filter p xs) (filter p xs) fails)) some')
                  | inr none ↦ inr none
                ]
          ]
    ]

-- ---- what a function gives of the elements

pub Any-map : {A B : Type 0} (P : B → Type 0) (f : A → B) (xs : List A) → Any P (map f xs) → Any (λ x. P (f x)) xs
Any-map P f [] some = absurd (Any-nil P some)
Any-map P f (x ∷ xs) some =
    elim (Any-cases P (f x) (map f xs) some) [
      | inl here ↦ Any-first (λ y. P (f y)) x xs here
      | inr later ↦ Any-later (λ y. P (f y)) x xs (Any-map P f xs later)
    ]

pub map-Any : {A B : Type 0} (P : B → Type 0) (f : A → B) (xs : List A) → Any (λ x. P (f x)) xs → Any P (map f xs)
map-Any P f [] some = absurd (Any-nil (λ y. P (f y)) some)
map-Any P f (x ∷ xs) some =
    elim (Any-cases (λ y. P (f y)) x xs some) [
      | inl here ↦ Any-first P (f x) (map f xs) here
      | inr later ↦ Any-later P (f x) (map f xs) (map-Any P f xs later)
    ]

given_first : {B : Type 0} (P : B → Type 0) (o : Option B) (ys : List B) → Any P (cons_option o ys) → ((y : B) × (o ≡ Some y) × P y) ⊎ Any P ys
given_first P None ys some = inr some
given_first P (Some y) ys some =
    elim (Any-cases P y ys some) [
      | inl here ↦ inl (y, refl, here)
      | inr later ↦ inr later
    ]

given_later : {B : Type 0} (P : B → Type 0) (o : Option B) (ys : List B) → Any P ys → Any P (cons_option o ys)
given_later P None ys some = some
given_later P (Some y) ys some = Any-later P y ys some

given_here : {B : Type 0} (P : B → Type 0) (o : Option B) (ys : List B) (y : B) → o ≡ Some y → P y → Any P (cons_option o ys)
given_here P None ys y e p = absurd (cc)
given_here P (Some x) ys y e p = let is : y ≡ x = cc in Any-first P x ys (subst P is p)

-- a value that a function gives of an element
abbrev pub GivesOne : {A B : Type 0} → (B → Type 0) → (A → Option B) → A → Type 0
GivesOne {A} {B} P f x = (y : B) × (f x ≡ Some y) × P y

pub Any-filter_map : {A B : Type 0} (P : B → Type 0) (f : A → Option B) (xs : List A) → Any P (filter_map f xs) → Any (GivesOne P f) xs
Any-filter_map P f [] some = absurd (Any-nil P some)
Any-filter_map P f (x ∷ xs) some =
    elim (given_first P (f x) (filter_map f xs) some) [
      | inl here ↦ Any-first (GivesOne P f) x xs here
      | inr later ↦ Any-later (GivesOne P f) x xs (Any-filter_map P f xs later)
    ]

pub filter_map-Any : {A B : Type 0} (P : B → Type 0) (f : A → Option B) (xs : List A) → Any (GivesOne P f) xs → Any P (filter_map f xs)
filter_map-Any P f [] some = absurd (Any-nil (GivesOne P f) some)
filter_map-Any P f (x ∷ xs) some =
    elim (Any-cases (GivesOne P f) x xs some) [
      | inl here ↦ given_here P (f x) (filter_map f xs) here.0 here.1 here.2
      | inr later ↦ given_later P (f x) (filter_map f xs) (filter_map-Any P f xs later)
    ]

given_all : {B : Type 0} (P : B → Type 0) (o : Option B) (ys : List B) → ((y : B) → o ≡ Some y → P y) → All P ys → All P (cons_option o ys)
given_all P None ys each all = all
given_all P (Some y) ys each all = All-cons P y ys (each y refl) all

-- each value that a function gives has a fact, where it has it of each element
pub All-filter_map : {A B : Type 0} (P : B → Type 0) (f : A → Option B) (xs : List A) → All (λ x. (y : B) → f x ≡ Some y → P y) xs → All P (filter_map f xs)
All-filter_map P f [] each = All-nil P
All-filter_map {A} {B} P f (x ∷ xs) each =
    let rest = All-tail (λ x. (y : B) → f x ≡ Some y → P y) x xs each in
    given_all P (f x) (filter_map f xs) (All-head (λ x. (y : B) → f x ≡ Some y → P y) x xs each) (All-filter_map P f xs rest)

given_length : {B : Type 0} (o : Option B) (ys : List B) → length (cons_option o ys) ≤ length ys + 1
given_length None ys = omega arith
given_length (Some y) ys = omega arith

pub filter_map_length : {A B : Type 0} (f : A → Option B) (xs : List A) → length (filter_map f xs) ≤ length xs
filter_map_length f [] = omega arith
filter_map_length f (x ∷ xs) =
    let rest = filter_map_length f xs in
    let here = given_length (f x) (filter_map f xs) in
    omega arith
