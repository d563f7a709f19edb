-- The calls of one seat among those of all.
use Rattle.std.proofs.Common.{◌≡◌, ◌==◌, ℕ, Bool, true, false, if◌then◌else◌, List, [], ◌∷◌, ◌++◌, refl, sym, ap, subst, ◌∙◌, append_assoc, append-nil, eq-eqb}
use Rattle.std.proofs.lemmas.Bool.{ne_eqb}
use Rattle.std.specs.declared.option.Option.{Option}
use Rattle.std.specs.declared.option.Option.TheVariants.{Some}
use Rattle.turn_desk.specs.declared.view.Entry.{Entry}
use Rattle.turn_desk.specs.declared.view.Member.{Member}
use Rattle.turn_desk.specs.Histories.{NoneBy, GoesOn, Runs, entry, seen_of, seat_number, first_in_view, longer, if_longer, IsLegalList, Called}
use Rattle.turn_desk.specs.Calls.{Call, call_of, calls_by, Made}

module _ {P R : Type 0} where
  one_more : (mine : Bool) (c : Call P R) (xs ys zs : List (Call P R)) → xs ≡ ys ++ zs → (if mine then c ∷ xs else xs) ≡ (if mine then c ∷ ys else ys) ++ zs
  one_more true c xs ys zs e = ap (λ l. c ∷ l) e
  one_more false c xs ys zs e = e

  calls_append : (n : ℕ) (es fs : List (Entry P R)) → calls_by n (es ++ fs) ≡ calls_by n es ++ calls_by n fs
  calls_append n [] fs = refl
  calls_append n (e ∷ es) fs = one_more (e.by == n) (call_of e) (calls_by n (es ++ fs)) (calls_by n es) (calls_by n fs) (calls_append n es fs)

  calls_none : (n : ℕ) (es : List (Entry P R)) → NoneBy n es → calls_by n es ≡ []
  calls_none n [] h = refl
  calls_none n (e ∷ es) h = rw (ne_eqb e.by n h.0) (calls_none n es h.1)

  calls_self : (n : ℕ) (op : P) (reply : R) → calls_by n (entry n op reply ∷ []) ≡ record { op = op; reply = reply } ∷ []
  calls_self n op reply = rw (eq-eqb n n refl) refl

module _ {O : Type 0} where
  some_is : (x y : O) → Some x ≡ Some y → x ≡ y
  some_is x y e = cc

module _ {O P R : Type 0} (acts : O → P → R → O → Type 0) where
  pub made_none : (v : Option (Member O P R)) → Made acts v [] v
  made_none v = record { later = []; seen = sym (append-nil (seen_of v)); own = refl; number = refl; legal = λ opening h. h }

  pub made_one : (v w : Option (Member O P R)) (op : P) (reply : R) → Called acts v op reply w → Made acts v (record { op = op; reply = reply } ∷ []) w
  made_one v w op reply c =
      let n = seat_number v in
      let own : calls_by n (c.between ++ entry n op reply ∷ []) ≡ record { op = op; reply = reply } ∷ [] = rw (calls_append n c.between (entry n op reply ∷ []), calls_none n c.between c.others) (calls_self n op reply) in
      record {
        later = c.between ++ entry n op reply ∷ [];
        seen = c.seen ∙ append_assoc (seen_of v) c.between (entry n op reply ∷ []);
        own = own;
        number = c.number;
        legal = λ opening h. subst (λ x. IsLegalList acts x w) (some_is c.opening opening (sym c.first ∙ h.0)) c.legal;
      }

  -- a seat that went on without an entry of its own made no call
  pub made_nothing : (opening : O) (v w : Option (Member O P R)) → IsLegalList acts opening v → IsLegalList acts opening w → seat_number w ≡ seat_number v → GoesOn (seat_number v) (seen_of w) (seen_of v) → Made acts v [] w
  made_nothing opening v w h k number on = record {
    later = on.0;
    seen = on.1;
    own = calls_none (seat_number v) on.0 on.2;
    number = number;
    legal = λ x l. subst (λ o. IsLegalList acts o w) (some_is opening x (sym h.0 ∙ l.0)) k;
  }

  pub made_more : (u v w : Option (Member O P R)) (xs ys : List (Call P R)) → Made acts u xs v → Made acts v ys w → Made acts u (xs ++ ys) w
  made_more u v w xs ys h k =
      let n = seat_number u in
      let theirs : calls_by n k.later ≡ ys = subst (λ m. calls_by m k.later ≡ ys) h.number k.own in
      record {
        later = h.later ++ k.later;
        seen = k.seen ∙ (ap (λ l. l ++ k.later) h.seen ∙ append_assoc (seen_of u) h.later k.later);
        own = rw (calls_append n h.later k.later, h.own, theirs) refl;
        number = k.number ∙ h.number;
        legal = λ opening l. k.legal opening (h.legal opening l);
      }

  runs_end : (first last : O) (es : List (Entry P R)) (e : Entry P R) → Runs acts first (es ++ e ∷ []) last → (x : O) × (y : O) × acts x e.op e.reply y
  runs_end first last [] e h = (first, h.0, h.1)
  runs_end first last (d ∷ es) e h = runs_end h.0 last es e h.2

  -- the reply of a call is one that the object allows to it
  pub acted : (v w : Option (Member O P R)) (op : P) (reply : R) → Called acts v op reply w → (x : O) × (y : O) × acts x op reply y
  acted v w op reply c = runs_end c.opening c.legal.1 (seen_of v ++ c.between) (entry (seat_number v) op reply) (subst (λ l. Runs acts c.opening l c.legal.1) c.seen c.legal.2)

  module _ (opening : O) (u v w : Option (Member O P R)) (same : first_in_view w ≡ first_in_view u) (h : IsLegalList acts opening u) (k : IsLegalList acts opening v) where
    by_length : (b : Bool) → seen_of w ≡ if_longer b (seen_of u) (seen_of v) → IsLegalList acts opening w
    by_length true e = (same ∙ h.0, k.1, subst (λ l. Runs acts opening l k.1) (sym e) k.2)
    by_length false e = (same ∙ h.0, h.1, subst (λ l. Runs acts opening l h.1) (sym e) h.2)

    -- the longer of two legal lists is legal
    pub legal_longer : seen_of w ≡ longer (seen_of u) (seen_of v) → IsLegalList acts opening w
    legal_longer e = by_length _ e
