-- Threads that are started one after another.
use Rattle.std.proofs.Common.{◌≡◌, inl, inr, ◌≤◌, ◌<◌, ℕ, ◌+◌, List, [], ◌∷◌, ◌++◌, refl, sym, ap, ◌∙◌, append_assoc, append-nil, arith, drop, map, length, get_or}
use Rattle.std.proofs.lemmas.List.{drop_more}
use Rattle.std.specs.Prelude.{Option, Some, None}
use Rattle.fv_base.specs.Told.{Rose}
use Rattle.fv_live.specs.Roles.{Role, started}
use Rattle.live_serve.specs.Roles.{pair, slice_roles, Partly}

pub started_none : (told : Option (List Role)) → told ≡ started told []
started_none None = refl
started_none (Some before) = ap Some (sym (append-nil before))

pub started_twice : (told : Option (List Role)) (xs ys : List Role) → started (started told xs) ys ≡ started told (xs ++ ys)
started_twice None xs ys = refl
started_twice (Some before) xs ys = ap Some (append_assoc before xs ys)

pub partly_none : (told after : Option (List Role)) (all : List Role) → after ≡ told → Partly told all after
partly_none told after all e = ([], (all, refl), e ∙ started_none told)

-- some of the next threads were started, after all before them
pub partly_more : (told mid after : Option (List Role)) (xs ys rest all : List Role) → mid ≡ started told xs → (xs ++ (ys ++ rest)) ≡ all → Partly mid ys after → Partly told all after
partly_more told mid after xs ys rest all e w p = (
  xs ++ p.0,
  (p.1.0 ++ rest, append_assoc xs p.0 (p.1.0 ++ rest) ∙ (ap (λ l. xs ++ l) (sym (append_assoc p.0 p.1.0 rest) ∙ ap (λ l. l ++ rest) p.1.1) ∙ w)),
  p.2 ∙ (ap (λ t. started t p.0) e ∙ started_twice told xs p.0),
)

pub started_more : (told mid after : Option (List Role)) (xs ys : List Role) → mid ≡ started told xs → after ≡ started mid ys → after ≡ started told (xs ++ ys)
started_more told mid after xs ys e k = k ∙ (ap (λ t. started t ys) e ∙ started_twice told xs ys)

pub rose_later : (old mid new : ℕ) → old ≤ mid → Rose mid new → Rose old new
rose_later old mid new le (inl h) = inl (omega (arith, le, h))
rose_later old mid new le (inr h) = inr h

-- the threads of the slices from a slot on are those of its slice and those of the next ones
pub next_roles : {A : Type 0} → (f : A → List ℕ) (xs : List A) (i : ℕ) (x : A) (address : List ℕ) → i < length xs → x ≡ get_or xs i x → address ≡ f x → slice_roles i (map f (drop i xs)) ≡ pair i address ++ slice_roles (i + 1) (map f (drop (i + 1) xs))
next_roles f xs i x address within e a =
    let split : drop i xs ≡ x ∷ drop (i + 1) xs = drop_more xs i x within ∙ ap (λ y. y ∷ drop (i + 1) xs) (sym e) in
    ap (λ l. slice_roles i (map f l)) split ∙ ap (λ b. pair i b ++ slice_roles (i + 1) (map f (drop (i + 1) xs))) (sym a)
