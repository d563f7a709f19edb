-- Lists that are made piece by piece.
use Rattle.std.proofs.Common.{◌≡◌, ◌⊎◌, inl, inr, List, [], ◌∷◌, ◌++◌, get_or, filter_map, All, Any, AllPairs, Option, Some, None, refl}
use Rattle.std.specs.List.{flat_map, cons_option}
use Rattle.std.proofs.lemmas.List.Elements.{All-nil, All-head, All-tail, All-append}
use Rattle.std.proofs.lemmas.List.Kept.{AllPairs-cons}
use Rattle.of10_model.proofs.Pairs.{AllPairs-nil, AllPairs-head, AllPairs-tail}
use Rattle.flowmod_expand.proofs.Somewhere.{Any-first, Any-later, Any-cases, Any-nil, All-filter_map}

-- ---- each pair

AllPairs-append : {A : Type 0} (R : A → A → Type 0) (xs ys : List A) → AllPairs R xs → AllPairs R ys → All (λ x. All (R x) ys) xs → AllPairs R (xs ++ ys)
AllPairs-append R [] ys pairs others across = others
AllPairs-append R (x ∷ xs) ys pairs others across =
    AllPairs-cons R x (xs ++ ys)
    (All-append (R x) xs ys (AllPairs-head R x xs pairs) (All-head (λ a. All (R a) ys) x xs across))
    (AllPairs-append R xs ys (AllPairs-tail R x xs pairs) others (All-tail (λ a. All (R a) ys) x xs across))

module _ {A B : Type 0} (S : A → A → Type 0) (R : B → B → Type 0) (f : A → List B) (across : (x y : A) → S x y → All (λ b. All (R b) (f y)) (f x)) where
  spread : (x : A) (ys : List A) → All (S x) ys → All (λ b. All (R b) (flat_map f ys)) (f x)
  spread x [] all = λ k d lt. All-nil (R (get_or (f x) k d))
  spread x (y ∷ ys) all = λ k d lt.
      All-append (R (get_or (f x) k d)) (f y) (flat_map f ys) (across x y (All-head (S x) y ys all) k d lt) (spread x ys (All-tail (S x) y ys all) k d lt)

  -- of lists made of elements that pair each pairs within, and with those of the later ones
  pub AllPairs-flat_map : ((x : A) → AllPairs R (f x)) → (xs : List A) → AllPairs S xs → AllPairs R (flat_map f xs)
  AllPairs-flat_map own [] pairs = AllPairs-nil R
  AllPairs-flat_map own (x ∷ xs) pairs =
      AllPairs-append R (f x) (flat_map f xs) (own x) (AllPairs-flat_map own xs (AllPairs-tail S x xs pairs)) (spread x xs (AllPairs-head S x xs pairs))

given_pairs : {B : Type 0} (R : B → B → Type 0) (o : Option B) (ys : List B) → ((b : B) → o ≡ Some b → All (R b) ys) → AllPairs R ys → AllPairs R (cons_option o ys)
given_pairs R None ys each pairs = pairs
given_pairs R (Some b) ys each pairs = AllPairs-cons R b ys (each b refl) pairs

pub AllPairs-filter_map : {A B : Type 0} (S : A → A → Type 0) (R : B → B → Type 0) (f : A → Option B) → ((x y : A) (b c : B) → S x y → f x ≡ Some b → f y ≡ Some c → R b c) → (xs : List A) → AllPairs S xs → AllPairs R (filter_map f xs)
AllPairs-filter_map S R f rel [] pairs = AllPairs-nil R
AllPairs-filter_map S R f rel (x ∷ xs) pairs =
    given_pairs R (f x) (filter_map f xs)
    (λ b e. All-filter_map (R b) f xs (λ k d lt. λ c e'. rel x (get_or xs k d) b c (AllPairs-head S x xs pairs k d lt) e e'))
    (AllPairs-filter_map S R f rel xs (AllPairs-tail S x xs pairs))

-- ---- each element

pub All-flat_map : {A B : Type 0} (P : B → Type 0) (f : A → List B) (xs : List A) → All (λ x. All P (f x)) xs → All P (flat_map f xs)
All-flat_map P f [] all = All-nil P
All-flat_map P f (x ∷ xs) all = All-append P (f x) (flat_map f xs) (All-head (λ a. All P (f a)) x xs all) (All-flat_map P f xs (All-tail (λ a. All P (f a)) x xs all))

-- ---- some element

Any-append : {A : Type 0} (P : A → Type 0) (xs ys : List A) → Any P (xs ++ ys) → Any P xs ⊎ Any P ys
Any-append P [] ys some = inr some
Any-append P (x ∷ xs) ys some =
    elim (Any-cases P x (xs ++ ys) some) [
      | inl here ↦ inl (Any-first P x xs here)
      | inr later ↦
          elim (Any-append P xs ys later) [
            | inl left ↦ inl (Any-later P x xs left)
            | inr right ↦ inr right
          ]
    ]

append-right : {A : Type 0} (P : A → Type 0) (xs ys : List A) → Any P ys → Any P (xs ++ ys)
append-right P [] ys some = some
append-right P (x ∷ xs) ys some = Any-later P x (xs ++ ys) (append-right P xs ys some)

append-left : {A : Type 0} (P : A → Type 0) (xs ys : List A) → Any P xs → Any P (xs ++ ys)
append-left P [] ys some = absurd (Any-nil P some)
append-left P (x ∷ xs) ys some =
    elim (Any-cases P x xs some) [
      | inl here ↦ Any-first P x (xs ++ ys) here
      | inr later ↦ Any-later P x (xs ++ ys) (append-left P xs ys later)
    ]

pub Any-flat_map : {A B : Type 0} (P : B → Type 0) (f : A → List B) (xs : List A) → Any P (flat_map f xs) → Any (λ x. Any P (f x)) xs
Any-flat_map P f [] some = absurd (Any-nil P some)
Any-flat_map P f (x ∷ xs) some =
    elim (Any-append P (f x) (flat_map f xs) some) [
      | inl here ↦ Any-first (λ a. Any P (f a)) x xs here
      | inr later ↦ Any-later (λ a. Any P (f a)) x xs (Any-flat_map P f xs later)
    ]

pub flat_map-Any : {A B : Type 0} (P : B → Type 0) (f : A → List B) (xs : List A) → Any (λ x. Any P (f x)) xs → Any P (flat_map f xs)
flat_map-Any P f [] some = absurd (Any-nil (λ a. Any P (f a)) some)
flat_map-Any P f (x ∷ xs) some =
    elim (Any-cases (λ a. Any P (f a)) x xs some) [
      | inl here ↦ append-left P (f x) (flat_map f xs) here
      | inr later ↦ append-right P (f x) (flat_map f xs) (flat_map-Any P f xs later)
    ]
