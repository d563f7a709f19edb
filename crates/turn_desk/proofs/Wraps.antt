-- The steps as the calls ask for them.
use Rattle.std.proofs.Common.{◌≡◌, ℕ, ◌+◌, ◌-◌, ◌%◌, ◌^◌, ◌<◌, true, true≢false, List, [], ◌∷◌, ◌++◌, refl, sym, ap, ◌∙◌, subst}
use Rattle.std.specs.Prelude.{◌==◌, MatchBool}
use Rattle.std.specs.declared.option.Option.{Option}
use Rattle.std.specs.declared.option.Option.TheVariants.{None, Some}
use mathlib.Core.Option.{none}
use Rattle.atomic_table.specs.Table.{Me, Step, Allows, step, rest}
use Rattle.turn_desk.specs.declared.view.Stage.TheVariants.{Waits, Holds}
use Rattle.turn_desk.specs.declared.view.Member.{Member}
use Rattle.turn_desk.specs.Histories.{entry, Called}
use Rattle.turn_desk.specs.Rule.{staged, idle_of, drawn_view, passed_view, IsRuled, HasTurn, Looked, LookedAt, Passed, TakesTurn, WaitsWith, HoldsWith}
use Rattle.turn_desk.proofs.Steps.{looks, passes, runs_snoc}

module _ {O : Type 0} where
  abbrev IsRow : List (ℕ × Option O) → List (ℕ × Option O) → Type 0
  IsRow u w = u ≡ w

  pub one_row : (xs : List (ℕ × Option O)) (x : O) → xs ≡ (0, Some x) ∷ [] → IsRow xs ((0, Some x) ∷ rest xs)
  one_row xs x e = subst (λ (u : List (ℕ × Option O)). IsRow u ((0, Some x) ∷ rest u)) (sym e) refl

module _ {O P R : Type 0} where
  abbrev IsMe : Me (Option O) (Option (Member O P R)) → Me (Option O) (Option (Member O P R)) → Type 0
  IsMe u w = u ≡ w

module _ {O P R : Type 0} (acts : O → P → R → O → Type 0) where
  pub looks' : (first : O) (slots id t : ℕ) (me : Me (Option O) (Option (Member O P R))) → WaitsWith t me → Allows (IsRuled acts first) slots id me 1 (λ n. n) (Looked acts (step slots 1 0 0 none) me)
  looks' first slots id t me h = subst (λ u. Allows (IsRuled acts first) slots id u 1 (λ n. n) (Looked acts (step slots 1 0 0 none) u)) (sym h.1) (looks acts first slots id t h.0 h.2)

  pub told : (st : Step (Option O)) (t found : ℕ) (me you : Me (Option O) (Option (Member O P R))) → WaitsWith t me → Looked acts st me found you → MatchBool (found == t) (TakesTurn acts t me.0 you) (you ≡ me)
  told st t found me you h l = subst (λ u. MatchBool (found == t) (TakesTurn acts t u.0 you) (you ≡ u)) (sym h.1)
      (subst (λ s. LookedAt acts s h.0 (Some h.0, []) found you) h.2 (subst (λ u. Looked acts st u found you) h.1 l))

  pub passes' : (first : O) (slots id : ℕ) (me : Me (Option O) (Option (Member O P R))) (op : P) (reply : R) (o : Option P) (r : Option R) → 0 < slots → HoldsWith acts op reply me → o ≡ Some op → r ≡ Some reply
      → Allows (IsRuled acts first) slots id me 1 (λ n. (n + 1) % 2 ^ 64) (Passed o r (step slots 1 1 0 none) me)
  passes' first slots id me op reply o r room h eo er =
      subst (λ o'. Allows (IsRuled acts first) slots id me 1 (λ n. (n + 1) % 2 ^ 64) (Passed o' r (step slots 1 1 0 none) me)) (sym eo)
      (subst (λ r'. Allows (IsRuled acts first) slots id me 1 (λ n. (n + 1) % 2 ^ 64) (Passed (Some op) r' (step slots 1 1 0 none) me)) (sym er)
      (subst (λ u. Allows (IsRuled acts first) slots id u 1 (λ n. (n + 1) % 2 ^ 64) (Passed (Some op) (Some reply) (step slots 1 1 0 none) u)) (sym h.4)
      (passes acts first slots id h.1 h.0 h.2 h.3 op reply room h.5 h.6)))

  pub passed_is : (st : Step (Option O)) (found : ℕ) (me you : Me (Option O) (Option (Member O P R))) (op : P) (reply : R) (o : Option P) (r : Option R) → o ≡ Some op → r ≡ Some reply → Passed o r st me found you → Passed (Some op) (Some reply) st me found you
  passed_is st found me you op reply o r eo er h = subst (λ r'. Passed (Some op) r' st me found you) er (subst (λ o'. Passed o' r st me found you) eo h)

  pub waits_drawn : (t : ℕ) (v : Option (Member O P R)) (me : Me (Option O) (Option (Member O P R))) → idle_of v ≡ true → me ≡ (drawn_view t v, []) → WaitsWith t me
  waits_drawn t None me i e = absurd (true≢false (sym i))
  waits_drawn t (Some m) me i e = (staged m (m.left - 1) (Waits t) m.seen, e, refl)

  -- the member that drew, and its turn
  abbrev pub Turned : ℕ → Option (Member O P R) → Me (Option O) (Option (Member O P R)) → Type 0
  Turned t v me = (m : Member O P R) × (v ≡ Some m) × HasTurn acts t (staged m (m.left - 1) (Waits t) m.seen) me

  pub turned : (t : ℕ) (v : Option (Member O P R)) (me0 me : Me (Option O) (Option (Member O P R))) → idle_of v ≡ true → me0 ≡ (drawn_view t v, []) → TakesTurn acts t me0.0 me → Turned t v me
  turned t None me0 me i e h = absurd (true≢false (sym i))
  turned t (Some m) me0 me i e h = (m, refl, subst (λ u. TakesTurn acts t u.0 me) e h)

  pub carries : (t : ℕ) (v : Option (Member O P R)) (me : Me (Option O) (Option (Member O P R))) → Turned t v me → (x : Option O) × (me.1 ≡ (0, x) ∷ rest me.1)
  carries t v me h = (Some h.2.object, subst (λ u. u.1 ≡ (0, Some h.2.object) ∷ rest u.1) (sym h.2.view) refl)

  -- what was lifted is the object of the turn
  lifted : (t : ℕ) (v : Option (Member O P R)) (me : Me (Option O) (Option (Member O P R))) (r : Option O) (x : O) (h : Turned t v me) → me.1 ≡ (0, r) ∷ rest me.1 → r ≡ Some x → h.2.object ≡ x
  lifted t v me r x h e q = inside h.2.object r x (subst (λ (u : Me (Option O) (Option (Member O P R))). u.1 ≡ (0, r) ∷ rest u.1) h.2.view e) q
    where
      inside : (o : O) (r : Option O) (x : O) → IsRow ((0, Some o) ∷ []) ((0, r) ∷ []) → r ≡ Some x → o ≡ x
      inside o r x e q = same o x (ap snd_of e ∙ q)
        where
          snd_of : List (ℕ × Option O) → Option O
          snd_of [] = None
          snd_of (a ∷ more) = a.1

          same : (o x : O) → Some o ≡ Some x → o ≡ x
          same o x e = cc

  pub holds_after : (t : ℕ) (v : Option (Member O P R)) (me1 me2 me3 : Me (Option O) (Option (Member O P R))) (r : Option O) (x y : O) (op : P) (reply : R) → Turned t v me1 → me1.1 ≡ (0, r) ∷ rest me1.1 → r ≡ Some x
      → me2 ≡ (me1.0, (0, None) ∷ rest me1.1) → me3 ≡ (me2.0, (0, Some y) ∷ rest me2.1) → acts x op reply y → HoldsWith acts op reply me3
  holds_after t v me1 me2 me3 r x y op reply h e q e2 e3 a = (
    staged h.0 (h.0.left - 1) (Holds t h.2.object) h.2.log,
    t,
    h.2.object,
    y,
    e3 ∙ subst (λ (u : Me (Option O) (Option (Member O P R))). IsMe (u.0, (0, Some y) ∷ rest u.1) (Some (staged h.0 (h.0.left - 1) (Holds t h.2.object) h.2.log), (0, Some y) ∷ [])) (sym e2) (subst (λ (u : Me (Option O) (Option (Member O P R))). IsMe (u.0, (0, Some y) ∷ rest u.1) (Some (staged h.0 (h.0.left - 1) (Holds t h.2.object) h.2.log), (0, Some y) ∷ [])) (sym h.2.view) refl),
    refl,
    subst (λ z. acts z op reply y) (sym (lifted t v me1 r x h e q)) a,
  )

  pub called : (t : ℕ) (v : Option (Member O P R)) (me1 me2 me3 me4 : Me (Option O) (Option (Member O P R))) (r : Option O) (x y : O) (op : P) (reply : R) → Turned t v me1 → me1.1 ≡ (0, r) ∷ rest me1.1 → r ≡ Some x
      → me2 ≡ (me1.0, (0, None) ∷ rest me1.1) → me3 ≡ (me2.0, (0, Some y) ∷ rest me2.1) → acts x op reply y → me4 ≡ (passed_view op reply me3.0, []) → Called acts v op reply me4.0
  called t v me1 me2 me3 me4 r x y op reply h e q e2 e3 a e4 =
      subst (λ (u : Option (Member O P R)). Called acts u op reply me4.0) (sym h.1) (subst (λ (u : Me (Option O) (Option (Member O P R))). Called acts (Some h.0) op reply u.0) (sym e4) (subst (λ (u : Option (Member O P R)). Called acts (Some h.0) op reply (passed_view op reply u)) (sym same) here))
    where
      same : me3.0 ≡ Some (staged h.0 (h.0.left - 1) (Holds t h.2.object) h.2.log)
      same = ap (λ (u : Me (Option O) (Option (Member O P R))). u.0) e3 ∙ (ap (λ (u : Me (Option O) (Option (Member O P R))). u.0) e2 ∙ ap (λ (u : Me (Option O) (Option (Member O P R))). u.0) h.2.view)

      here : Called acts (Some h.0) op reply (passed_view op reply (Some (staged h.0 (h.0.left - 1) (Holds t h.2.object) h.2.log)))
      here = record {
        between = h.2.between;
        seen = ap (λ l. l ++ entry h.0.number op reply ∷ []) h.2.goes_on;
        others = h.2.others;
        number = refl;
        opening = h.0.first;
        first = refl;
        legal = (refl, y, runs_snoc acts h.2.log h.0.first h.2.object y (entry h.0.number op reply) h.2.legal (subst (λ z. acts z op reply y) (sym (lifted t v me1 r x h e q)) a));
      }

  last_row : (me1 me3 : Me (Option O) (Option (Member O P R))) (x y : O) → IsRow me1.1 ((0, Some x) ∷ []) → IsMe me3 (me1.0, (0, Some y) ∷ []) → IsMe me3 (me1.0, (0, Some y) ∷ rest me1.1)
  last_row me1 me3 x y e e3 = subst (λ (r : List (ℕ × Option O)). IsMe me3 (me1.0, (0, Some y) ∷ r)) (sym (ap rest e)) e3

  pub holds_here : (t : ℕ) (v : Option (Member O P R)) (me1 me3 : Me (Option O) (Option (Member O P R))) (x y : O) (op : P) (reply : R) → Turned t v me1 → IsRow me1.1 ((0, Some x) ∷ []) → IsMe me3 (me1.0, (0, Some y) ∷ []) → acts x op reply y → HoldsWith acts op reply me3
  holds_here t v me1 me3 x y op reply h e e3 a = holds_after t v me1 (me1.0, (0, None) ∷ rest me1.1) me3 (Some x) x y op reply h (one_row me1.1 x e) refl refl (last_row me1 me3 x y e e3) a

  pub called_here : (t : ℕ) (v : Option (Member O P R)) (me1 me3 me4 : Me (Option O) (Option (Member O P R))) (x y : O) (op : P) (reply : R) → Turned t v me1 → IsRow me1.1 ((0, Some x) ∷ []) → IsMe me3 (me1.0, (0, Some y) ∷ []) → acts x op reply y → me4 ≡ (passed_view op reply me3.0, []) → Called acts v op reply me4.0
  called_here t v me1 me3 me4 x y op reply h e e3 a e4 = called t v me1 (me1.0, (0, None) ∷ rest me1.1) me3 me4 (Some x) x y op reply h (one_row me1.1 x e) refl refl (last_row me1 me3 x y e e3) a e4

  pub turn_row : (t : ℕ) (v : Option (Member O P R)) (me : Me (Option O) (Option (Member O P R))) → Turned t v me → (x : O) × IsRow me.1 ((0, Some x) ∷ [])
  turn_row t v me h = (h.2.object, subst (λ (u : Me (Option O) (Option (Member O P R))). IsRow u.1 ((0, Some h.2.object) ∷ [])) (sym h.2.view) refl)
