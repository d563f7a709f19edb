-- What is held, in words of the calls.
use Rattle.std.proofs.Common.{◌≡◌, ℕ, ◌+◌, ◌%◌, ◌^◌, ◌<◌, ◌++◌, not, Bool, true, false, List, [], ◌∷◌, zero, suc, refl, ap, sym, subst, ◌∙◌, inl, inr, arith, ◌⊎◌}
use Rattle.std.specs.Prelude.{◌==◌, filter, Contains}
use Rattle.std.proofs.lemmas.Bool.{cases_Bool, eq-eqb, ne_eqb, leb-true, le-leb}
use Rattle.std.proofs.lemmas.List.Elements.{Contains-append_right}
use Rattle.buffer_map.specs.declared.held.Held.{Held}
use Rattle.buffer_map.specs.Buffers.{BufferCall, Give, Lose, Use, Drop, given, numbered, is_recent, held}
use Rattle.buffer_map.specs.Places.{IsInOrder}
use Rattle.buffer_map.specs.Laws.{IsHeld}
use Rattle.buffer_map.proofs.Places.{IsInOrder-filter, IsInOrder-recent}

pub IsInOrder-held : (calls : List BufferCall) → IsInOrder (given calls) (given calls) (held calls)
unfolding held
IsInOrder-held [] = tt
IsInOrder-held (Give physical header ∷ earlier) = (omega arith, omega arith, IsInOrder-recent (given earlier) (given earlier) (held earlier) (IsInOrder-held earlier))
IsInOrder-held (Lose physical ∷ earlier) = IsInOrder-filter (λ b. not (b.physical == physical)) (given earlier) (given earlier) (held earlier) (IsInOrder-held earlier)
IsInOrder-held (Use number ∷ earlier) = IsInOrder-filter (λ b. not (numbered number b)) (given earlier) (given earlier) (held earlier) (IsInOrder-held earlier)
IsInOrder-held (Drop ∷ earlier) = tt

given-append : (later earlier : List BufferCall) → given (later ++ earlier) ≡ given later + given earlier
given-append [] earlier = omega arith
given-append (Give physical header ∷ later) earlier = omega (arith, given-append later earlier)
given-append (Lose physical ∷ later) earlier = given-append later earlier
given-append (Use number ∷ later) earlier = given-append later earlier
given-append (Drop ∷ later) earlier = given-append later earlier

-- ---- what a list and a filter contain

Contains-cases : {X : Type 0} (y : X) (ys : List X) (x : X) → Contains (y ∷ ys) x → (y ≡ x) ⊎ Contains ys x
Contains-cases y ys x (zero, within, e) = inl e
Contains-cases y ys x (suc k, within, e) = inr (k, omega (arith, within), e)

Contains-here : {X : Type 0} (y : X) (ys : List X) (x : X) → y ≡ x → Contains (y ∷ ys) x
Contains-here y ys x e = (zero, omega arith, e)

Contains-later : {X : Type 0} (y : X) (ys : List X) (x : X) → Contains ys x → Contains (y ∷ ys) x
Contains-later y ys x c = Contains-append_right (y ∷ []) ys x c

Contains-filter : {X : Type 0} (test : X → Bool) (xs : List X) (x : X) → Contains xs x → test x ≡ true → Contains (filter test xs) x
Contains-filter test [] x c passes = absurd (omega (arith, c.1))
Contains-filter test (y ∷ ys) x c passes = elim (Contains-cases y ys x c) [
  | inl here ↦ let stays : test y ≡ true = subst (λ z. test z ≡ true) (sym here) passes in
      rw stays (Contains-here y (filter test ys) x here)
  | inr there ↦
      let rest = Contains-filter test ys x there passes in
      elim (cases_Bool (test y)) [ inl stays ↦ rw stays (Contains-later y (filter test ys) x rest) | inr goes ↦ rw goes rest ]
]

filter-Contains : {X : Type 0} (test : X → Bool) (xs : List X) (x : X) → Contains (filter test xs) x → (test x ≡ true) × Contains xs x
filter-Contains test [] x c = absurd (omega (arith, c.1))
filter-Contains test (y ∷ ys) x c = elim (cases_Bool (test y)) [
  | inl stays ↦ elim (Contains-cases y (filter test ys) x (rw stays at c)) [
    | inl here ↦ (subst (λ z. test z ≡ true) here stays, Contains-here y ys x here)
    | inr there ↦ let rest = filter-Contains test ys x there in (rest.0, Contains-later y ys x rest.1)
  ]
  | inr goes ↦ let rest = filter-Contains test ys x (rw goes at c) in (rest.0, Contains-later y ys x rest.1)
]

-- ---- what is held was given

one_more : (call : BufferCall) (calls : List BufferCall) (b : Held) → (w : IsHeld calls b) → given (call ∷ w.later) < 256
    → (call ≡ Drop → ⊥) → (call ≡ Lose b.physical → ⊥) → (call ≡ Use (b.ordinal % 2 ^ 24) → ⊥) → IsHeld (call ∷ calls) b
one_more call calls b w recent drops loses uses =
    let none : (ended : BufferCall) → (call ≡ ended → ⊥) → (Contains w.later ended → ⊥) → Contains (call ∷ w.later) ended → ⊥ =
    λ ended this before c. elim (Contains-cases call w.later ended c) [ inl here ↦ this here | inr there ↦ before there ] in
    record {
      later = call ∷ w.later;
      earlier = w.earlier;
      split = ap (λ calls. call ∷ calls) w.split;
      counted = w.counted;
      recent = recent;
      not_dropped = none Drop drops w.not_dropped;
      not_lost = none (Lose b.physical) loses w.not_lost;
      not_used = none (Use (b.ordinal % 2 ^ 24)) uses w.not_used;
    }

given_split : (calls : List BufferCall) (b : Held) (w : IsHeld calls b) → given calls ≡ given w.later + (b.ordinal + 1)
given_split calls b w = ap given w.split ∙ given-append w.later (Give b.physical b.header ∷ w.earlier) ∙ ap (λ n. given w.later + (n + 1)) (sym w.counted)

pub held-IsHeld : (calls : List BufferCall) (b : Held) → Contains (held calls) b → IsHeld calls b
unfolding held
held-IsHeld [] b c = absurd (omega (arith, c.1))
held-IsHeld (Give physical header ∷ earlier) b c = elim (Contains-cases _ _ b c) [
  | inl here ↦ subst (IsHeld (Give physical header ∷ earlier)) here (record {
    later = [];
    earlier = earlier;
    split = refl;
    counted = refl;
    recent = omega arith;
    not_dropped = λ c. omega (arith, c.1);
    not_lost = λ c. omega (arith, c.1);
    not_used = λ c. omega (arith, c.1);
  })
  | inr there ↦
      let kept = filter-Contains (is_recent (given earlier + 1)) (held earlier) b there in
      let w = held-IsHeld earlier b kept.1 in
      one_more (Give physical header) earlier b w (omega (arith, given_split earlier b w, leb-true _ _ kept.0)) (λ e. cc) (λ e. cc) (λ e. cc)
]
held-IsHeld (Lose physical ∷ earlier) b c =
    let kept = filter-Contains (λ b. not (b.physical == physical)) (held earlier) b c in
    let w = held-IsHeld earlier b kept.1 in
    one_more (Lose physical) earlier b w w.recent (λ e. cc)
    (λ e. let same : physical ≡ b.physical = cc in let this : (b.physical == physical) ≡ true = eq-eqb _ _ (sym same) in let no : not true ≡ true = rw this at kept.0 in cc)
    (λ e. cc)
held-IsHeld (Use number ∷ earlier) b c =
    let kept = filter-Contains (λ b. not (numbered number b)) (held earlier) b c in
    let w = held-IsHeld earlier b kept.1 in
    one_more (Use number) earlier b w w.recent (λ e. cc) (λ e. cc)
    (λ e. let same : number ≡ b.ordinal % 2 ^ 24 = cc in let this : numbered number b ≡ true = eq-eqb _ _ (sym same) in let no : not true ≡ true = rw this at kept.0 in cc)
held-IsHeld (Drop ∷ earlier) b c = absurd (omega (arith, c.1))

-- ---- what was given is held

as_given : (b : Held) (ordinal : ℕ) → b.ordinal ≡ ordinal → record { ordinal = ordinal; physical = b.physical; header = b.header } ≡ b
as_given b ordinal e = rw (← e) refl

still_held : (later earlier : List BufferCall) (b : Held) → b.ordinal ≡ given earlier → given later < 256 → (Contains later Drop → ⊥) → (Contains later (Lose b.physical) → ⊥)
    → (Contains later (Use (b.ordinal % 2 ^ 24)) → ⊥) → Contains (held (later ++ (Give b.physical b.header ∷ earlier))) b
unfolding held
still_held [] earlier b counted recent dropped lost used = Contains-here _ _ b (as_given b (given earlier) counted)
still_held (Give physical header ∷ later) earlier b counted recent dropped lost used =
    let was = still_held later earlier b counted (omega (arith, recent)) (λ c. dropped (Contains-later _ later Drop c)) (λ c. lost (Contains-later _ later (Lose b.physical) c)) (λ c. used (Contains-later _ later (Use (b.ordinal % 2 ^ 24)) c)) in
    let all = later ++ (Give b.physical b.header ∷ earlier) in
    let fresh : is_recent (given all + 1) b ≡ true = le-leb _ _ (omega (arith, recent, counted, given-append later (Give b.physical b.header ∷ earlier))) in
    Contains-later _ _ b (Contains-filter (is_recent (given all + 1)) (held all) b was fresh)
still_held (Lose physical ∷ later) earlier b counted recent dropped lost used =
    let was = still_held later earlier b counted recent (λ c. dropped (Contains-later _ later Drop c)) (λ c. lost (Contains-later _ later (Lose b.physical) c)) (λ c. used (Contains-later _ later (Use (b.ordinal % 2 ^ 24)) c)) in
    let apart : (b.physical == physical) ≡ false = ne_eqb _ _ (λ e. lost (Contains-here _ later (Lose b.physical) (ap Lose (sym e)))) in
    Contains-filter (λ b. not (b.physical == physical)) _ b was (rw apart refl)
still_held (Use number ∷ later) earlier b counted recent dropped lost used =
    let was = still_held later earlier b counted recent (λ c. dropped (Contains-later _ later Drop c)) (λ c. lost (Contains-later _ later (Lose b.physical) c)) (λ c. used (Contains-later _ later (Use (b.ordinal % 2 ^ 24)) c)) in
    let apart : numbered number b ≡ false = ne_eqb _ _ (λ e. used (Contains-here _ later (Use (b.ordinal % 2 ^ 24)) (ap Use (sym e)))) in
    Contains-filter (λ b. not (numbered number b)) _ b was (rw apart refl)
still_held (Drop ∷ later) earlier b counted recent dropped lost used = absurd (dropped (Contains-here Drop later Drop refl))

pub IsHeld-held : (calls : List BufferCall) (b : Held) → IsHeld calls b → Contains (held calls) b
IsHeld-held calls b w = subst (λ all. Contains (held all) b) (sym w.split) (still_held w.later w.earlier b w.counted w.recent w.not_dropped w.not_lost w.not_used)
