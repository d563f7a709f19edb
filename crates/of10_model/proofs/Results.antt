-- What a reading, and a reading of a list, comes to.
use Rattle.std.proofs.Common.{◌≡◌, Bool, true, false, cond, List, [], ◌∷◌, ◌++◌, Result, Ok, Err, refl, ap, ◌∙◌, ◌⊎◌, inl, inr, append_assoc}
use Rattle.of10_model.specs.Results.{◌>>=◌}

pub ok_is : {A E : Type 0} (x y : A) → ◌≡◌ {A = Result A E} (Ok x) (Ok y) → x ≡ y
ok_is x y e = cc

-- a test that found no fault
pub passed : {A E : Type 0} (b : Bool) (fault : E) (r : Result A E) (x : A) → cond b (Err fault) r ≡ Ok x → (b ≡ false) × (r ≡ Ok x)
passed true fault r x e = absurd cc
passed false fault r x e = (refl, e)

-- a test that found what it wants
pub met : {A E : Type 0} (b : Bool) (fault : E) (r : Result A E) (x : A) → cond b r (Err fault) ≡ Ok x → (b ≡ true) × (r ≡ Ok x)
met true fault r x e = (refl, e)
met false fault r x e = absurd cc

pub bind_ok : {A B E : Type 0} (r : Result A E) (f : A → Result B E) (y : B) → (r >>= f) ≡ Ok y → (x : A) × (r ≡ Ok x) × (f x ≡ Ok y)
bind_ok (Ok x) f y e = (x, refl, e)
bind_ok (Err fault) f y e = absurd cc

pub bind_is : {A B E : Type 0} (r : Result A E) (f : A → Result B E) (x : A) (y : Result B E) → r ≡ Ok x → f x ≡ y → (r >>= f) ≡ y
bind_is r f x y e h = ap (λ q. q >>= f) e ∙ h

pub bind_fails : {A B E : Type 0} (r : Result A E) (f : A → Result B E) (fault : E) → r ≡ Err fault → (r >>= f) ≡ Err fault
bind_fails r f fault e = ap (λ q. q >>= f) e

pub bind_err : {A B E : Type 0} (r : Result A E) (f : A → Result B E) (fault : E) → (r >>= f) ≡ Err fault → (r ≡ Err fault) ⊎ ((x : A) × (r ≡ Ok x) × (f x ≡ Err fault))
bind_err (Ok x) f fault e = inr (x, refl, e)
bind_err (Err other) f fault e = inl (let h = e in cc)

pub same_bind : {A B E : Type 0} (r : Result A E) (f g : A → Result B E) → ((x : A) → r ≡ Ok x → f x ≡ g x) → (r >>= f) ≡ (r >>= g)
same_bind (Ok x) f g h = h x refl
same_bind (Err fault) f g h = refl

-- what was read before, and what is still read
abbrev pub with_front : {A E : Type 0} → List A → Result (List A) E → Result (List A) E
with_front front read = read >>= λ others. Ok (front ++ others)

pub regroup : {A E : Type 0} (front : List A) (x : A) (read : Result (List A) E) → with_front front (read >>= λ others. Ok (x ∷ others)) ≡ with_front (front ++ x ∷ []) read
regroup front x (Ok others) = ap Ok (simp append_assoc)
regroup front x (Err fault) = refl

pub others_wrong : {A E : Type 0} (r : Result (List A) E) (x : A) (fault : E) → (r >>= λ others. Ok (x ∷ others)) ≡ Err fault → r ≡ Err fault
others_wrong (Ok others) x fault e = absurd cc
others_wrong (Err other) x fault e = cc

-- what follows a test counts only where the test doesn't hold
pub unless : {A : Type 0} (test : Bool) (x y z : A) → (test ≡ false → y ≡ z) → cond test x y ≡ cond test x z
unless true x y z h = refl
unless false x y z h = h refl

-- what holds of both holds of either
pub either : {A : Type 0} (P : A → Type 0) (b : Bool) (x y : A) → P x → P y → P (cond b x y)
either P true x y one other = one
either P false x y one other = other

pub either_none : {A : Type 0} (b : Bool) (xs : List A) → xs ≡ [] → cond b xs [] ≡ []
either_none true xs none = none
either_none false xs none = refl
