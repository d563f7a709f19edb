-- The table at its start and at its end.
use Rattle.std.proofs.Common.{◌≡◌, ◌≢◌, ℕ, zero, suc, ◌+◌, ◌^◌, ◌≤◌, true, true≢false, List, [], ◌∷◌, ◌++◌, length, refl, sym, ap, ◌∙◌, subst, arith, append-nil, length-append}
use Rattle.std.specs.Prelude.{IfSome, IfNone}
use Rattle.std.specs.declared.option.Option.{Option}
use Rattle.std.specs.declared.option.Option.TheVariants.{None, Some}
use mathlib.Core.Option.{some, some-ne-none}
use lib.ListN.{get_elem?}
use Rattle.atomic_table.specs.Table.{opening, Final, Seen}
use Rattle.turn_desk.specs.declared.view.Entry.{Entry}
use Rattle.turn_desk.specs.declared.view.Stage.{Stage}
use Rattle.turn_desk.specs.declared.view.Stage.TheVariants.{Idle, Waits, Holds}
use Rattle.turn_desk.specs.declared.view.Member.{Member}
use Rattle.turn_desk.specs.Histories.{Runs, seen_of}
use Rattle.turn_desk.specs.Rule.{total, IsHolder, lefts, tickets, tickets_of, Fits, Apart, IsRuled, newcomer, idle_of}
use Rattle.turn_desk.proofs.Lists.{part_total}

module _ {O : Type 0} where
  holder_ticket : (st : Stage O) → IsHolder st → tickets_of st ≡ 1
  holder_ticket Idle h = absurd h
  holder_ticket (Waits t) h = absurd h
  holder_ticket (Holds t x) h = refl

  pub if_some : (T : O → Type 0) (r : Option O) (x : O) → r ≡ Some x → T x → IfSome r T
  if_some T r x e t = subst (λ (q : Option O). IfSome q T) (sym e) t

  pub if_none : (T : Type 0) (r : Option O) (x : O) → r ≡ Some x → IfNone r T
  if_none T r x e = subst (λ (q : Option O). IfNone q T) (sym e) tt

module _ {O P R : Type 0} (acts : O → P → R → O → Type 0) (first : O) where
  abbrev newest : Member O P R
  newest = record { first = first; number = 0; stride = 1; left = 2 ^ 63; stage = Idle; seen = []; mine = []; other = [] }

  new_fits : Fits first [] first 0 newest
  new_fits = record { opening = refl; later = []; whole = refl; others = tt; ahead = (λ i. tt); gap = omega arith; own = ([], refl, tt); met = ([], refl); place = tt }

  here : (m : Member O P R) → some (newcomer {O = O} {P = P} {R = R} first) ≡ some (Some m) → newest ≡ m
  here m e = cc

  pub begins : IsRuled acts first (opening (0 ∷ 0 ∷ []) (Some first ∷ []) (newcomer first))
  begins = record {
    log = [];
    now = first;
    drawn = 0;
    runs = refl;
    words = refl;
    calls = omega arith;
    waiting = refl;
    each = each;
    apart = apart;
    home = (λ h. refl);
  }
    where
      each : (k : ℕ) (m : Member O P R) → get_elem? (newcomer first ∷ []) k ≡ some (Some m) → Fits first [] first 0 m
      each zero m e = subst (Fits first [] first 0) (here m e) new_fits
      each (suc k) m e = absurd (some-ne-none (Some m) (sym e))

      apart : (j k : ℕ) (a b : Member O P R) → get_elem? (newcomer first ∷ []) j ≡ some (Some a) → get_elem? (newcomer first ∷ []) k ≡ some (Some b) → j ≢ k → Apart a b
      apart zero zero a b e g ne = absurd (ne refl)
      apart zero (suc k) a b e g ne = absurd (some-ne-none (Some b) (sym g))
      apart (suc j) k a b e g ne = absurd (some-ne-none (Some a) (sym e))

  no_more : (xs : List (Entry P R)) → length xs ≡ 0 → xs ≡ []
  no_more [] e = refl
  no_more (x ∷ xs) e = absurd (omega arith)

  pub closes : (id : ℕ) (v : Option (Member O P R)) (ws : List ℕ) (xs : List (Option O)) → idle_of v ≡ true → 2 ^ 63 ≤ lefts v + length (seen_of v) → Final (Seen (IsRuled acts first) id v) ws xs
      → (x : O) × (get_elem? xs 0 ≡ some (Some x)) × Runs acts first (seen_of v) x
  closes id None ws xs idle most final = absurd (true≢false (sym idle))
  closes id (Some m) ws xs idle most final = (
    h.now,
    final.4 0 (Some h.now) (h.home no_holder),
    subst (λ l. Runs acts first l h.now) all_seen h.runs,
  )
    where
      h : IsRuled acts first final.0
      h = final.1.0

      f : Fits first h.log h.now h.drawn m
      f = h.each id m final.1.1

      sums : (total tickets final.0.views ≡ 0) × (length f.later ≡ 0)
      sums =
          let a = part_total lefts final.0.views id (Some m) final.1.1 in
          let b = h.calls in
          let c = h.waiting in
          let d : length h.log ≡ length m.seen + length f.later = ap length f.whole ∙ length-append m.seen f.later in
          let e = most in (omega arith, omega arith)

      all_seen : h.log ≡ m.seen
      all_seen = f.whole ∙ (ap (λ l. m.seen ++ l) (no_more f.later sums.1) ∙ append-nil m.seen)

      no_holder : (k : ℕ) (a : Member O P R) → get_elem? final.0.views k ≡ some (Some a) → IsHolder a.stage → ⊥
      no_holder k a e held = let p = part_total tickets final.0.views k (Some a) e in let q = holder_ticket a.stage held in let r = sums.0 in omega arith
