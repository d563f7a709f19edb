-- Splitting, joining and meeting keep the rule.
use Rattle.std.proofs.Common.{◌≡◌, ◌≢◌, ◌⊎◌, ℕ, ◌+◌, ◌*◌, ◌≤◌, ◌&&◌, Bool, true, false, true≢false, List, [], ◌∷◌, ◌++◌, length, set, refl, sym, ap, ◌∙◌, subst, inl, inr, ⊎_elim, arith, append-nil, length-append}
use Rattle.std.specs.Prelude.{nat_lt, slice_index}
use Rattle.std.proofs.lemmas.Bool.Decides.{nat_tests}
use Rattle.std.specs.declared.option.Option.{Option}
use Rattle.std.specs.declared.option.Option.TheVariants.{None, Some}
use mathlib.Core.Option.{some, none, some-injective}
use lib.ListN.{get_elem?}
use Rattle.atomic_table.proofs.Lists.{at_set, at_longer, set_again}
use Rattle.atomic_table.specs.Table.{Me, State, Splits, Joins, Allows, step, keeps}
use Rattle.turn_desk.specs.declared.view.Entry.{Entry}
use Rattle.turn_desk.specs.declared.view.Stage.{Stage}
use Rattle.turn_desk.specs.declared.view.Stage.TheVariants.{Idle, Waits, Holds}
use Rattle.turn_desk.specs.declared.view.Member.{Member}
use Rattle.turn_desk.specs.Histories.{NoneBy, if_longer}
use Rattle.turn_desk.specs.Rule.{tickets_of, IsHolder, lefts, tickets, FitsStage, Fits, Apart, IsRuled, left_of, right_of, cut_left, cut_right, both_of, joined, idle_of, idle_stage, Known, is_idle, is_empty, Learned}
use Rattle.turn_desk.proofs.Lists.{part_total, total_set, total_snoc, set_there, kept_at, at_end, none_front, none_back, shorter}
use Rattle.turn_desk.proofs.Numbers.{left_ahead, right_ahead, left_number, right_number, never_one}

module _ {O : Type 0} where
  pub idle_tickets : (st : Stage O) → idle_stage st ≡ true → tickets_of st ≡ 0
  idle_tickets Idle e = refl
  idle_tickets (Waits t) e = absurd (true≢false (sym e))
  idle_tickets (Holds t x) e = absurd (true≢false (sym e))

  idle_holds : (st : Stage O) → idle_stage st ≡ true → IsHolder st → ⊥
  idle_holds Idle e h = h
  idle_holds (Waits t) e h = h
  idle_holds (Holds t x) e h = true≢false (sym e)

module _ {O P R : Type 0} where
  pub member_is : (a b : Member O P R) → Some a ≡ Some b → a ≡ b
  member_is a b e = cc

  not_none : (a : Member O P R) → None ≡ Some a → ⊥
  not_none a e = cc

  abbrev pub flip : (a b : Member O P R) → Apart a b → Apart b a
  flip a b x = record { numbers = (λ i j e. x.numbers j i (sym e)); turns = (λ t p q. x.turns t q p) }

  module _ (first : O) (log : List (Entry P R)) (now : O) (drawn : ℕ) (n : ℕ) (m : Member O P R) (f : Fits first log now drawn m) where
    left_fits : Fits first log now drawn (left_of n m)
    left_fits = record {
      opening = f.opening;
      later = f.later;
      whole = f.whole;
      others = f.others;
      ahead = (λ i. subst (λ k. NoneBy k log) (sym (left_ahead m.number m.stride i)) (f.ahead (2 * i + 1)));
      gap = (let g = f.gap in omega arith);
      own = f.own;
      met = f.met;
      place = f.place;
    }

    -- no entry is of the number that the new seat gets
    unused : NoneBy (m.number + m.stride) (m.seen ++ f.later)
    unused = subst (NoneBy (m.number + m.stride)) f.whole (subst (λ k. NoneBy k log) once (f.ahead 0))
      where
        once : m.number + 1 * m.stride ≡ m.number + m.stride
        once = grind arith

    right_fits : Fits first log now drawn (right_of n m)
    right_fits = record {
      opening = f.opening;
      later = f.later;
      whole = f.whole;
      others = none_back (m.number + m.stride) m.seen f.later unused;
      ahead = (λ i. subst (λ k. NoneBy k log) (sym (right_ahead m.number m.stride i)) (f.ahead (2 * i + 2)));
      gap = (let g = f.gap in omega arith);
      own = (m.seen, refl, none_front (m.number + m.stride) m.seen f.later unused);
      met = f.met;
      place = tt;
    }

    siblings : Apart (left_of n m) (right_of n m)
    siblings = record { numbers = (λ i j e. never_one m.number m.stride i j f.gap e); turns = (λ t p q. q) }

    left_apart : (b : Member O P R) → Apart m b → Apart (left_of n m) b
    left_apart b x = record { numbers = (λ i j e. x.numbers (2 * i) j (sym (left_number m.number m.stride i) ∙ e)); turns = x.turns }

    right_apart : (b : Member O P R) → Apart m b → Apart (right_of n m) b
    right_apart b x = record { numbers = (λ i j e. x.numbers (1 + 2 * i) j (sym (right_number m.number m.stride i) ∙ e)); turns = (λ t p q. p) }

  module _ (acts : O → P → R → O → Type 0) (first : O) where
    module _ (id n : ℕ) (m : Member O P R) (s : State (Option O) (Option (Member O P R))) (h : IsRuled acts first s) (at : get_elem? s.views id ≡ some (Some m)) (enough : n ≤ m.left) where
      abbrev half : List (Option (Member O P R))
      half = set s.views id (Some (left_of n m))

      abbrev after : List (Option (Member O P R))
      after = half ++ Some (right_of n m) ∷ []

      abbrev Was : ℕ → Member O P R → Type 0
      Was k a = ((k ≡ id) × (left_of n m ≡ a)) ⊎ (((k ≢ id) × (get_elem? s.views k ≡ some (Some a))) ⊎ ((k ≡ length half) × (right_of n m ≡ a)))

      was : (k : ℕ) (a : Member O P R) → get_elem? after k ≡ some (Some a) → Was k a
      was k a e = ⊎_elim
          (λ p. ⊎_elim (λ q. inl (q.0, member_is (left_of n m) a q.1)) (λ q. inr (inl q)) (at_set s.views id k (Some (left_of n m)) (Some a) p))
          (λ p. inr (inr (p.0, member_is (right_of n m) a p.1)))
          (at_end half (Some (right_of n m)) (Some a) k e)

      cut_each : (k : ℕ) (a : Member O P R) → get_elem? after k ≡ some (Some a) → Fits first h.log h.now h.drawn a
      cut_each k a e = ⊎_elim
          (λ p. subst (Fits first h.log h.now h.drawn) p.1 (left_fits first h.log h.now h.drawn n m (h.each id m at)))
          (λ p. ⊎_elim (λ q. h.each k a q.1) (λ q. subst (Fits first h.log h.now h.drawn) q.1 (right_fits first h.log h.now h.drawn n m (h.each id m at))) p)
          (was k a e)

      cut_apart : (j k : ℕ) (a b : Member O P R) → Was j a → Was k b → j ≢ k → Apart a b
      cut_apart j k a b (inl p) (inl q) ne = absurd (ne (p.0 ∙ sym q.0))
      cut_apart j k a b (inl p) (inr (inl q)) ne = subst (λ x. Apart x b) p.1 (left_apart first h.log h.now h.drawn n m (h.each id m at) b (h.apart id k m b at q.1 (λ e. q.0 (sym e))))
      cut_apart j k a b (inl p) (inr (inr q)) ne = subst (λ x. Apart x b) p.1 (subst (Apart (left_of n m)) q.1 (siblings first h.log h.now h.drawn n m (h.each id m at)))
      cut_apart j k a b (inr (inl p)) (inl q) ne = subst (Apart a) q.1 (flip (left_of n m) a (left_apart first h.log h.now h.drawn n m (h.each id m at) a (h.apart id j m a at p.1 (λ e. p.0 (sym e)))))
      cut_apart j k a b (inr (inl p)) (inr (inl q)) ne = h.apart j k a b p.1 q.1 ne
      cut_apart j k a b (inr (inl p)) (inr (inr q)) ne = subst (Apart a) q.1 (flip (right_of n m) a (right_apart first h.log h.now h.drawn n m (h.each id m at) a (h.apart id j m a at p.1 (λ e. p.0 (sym e)))))
      cut_apart j k a b (inr (inr p)) (inl q) ne = subst (λ x. Apart x b) p.1 (subst (Apart (right_of n m)) q.1 (flip (left_of n m) (right_of n m) (siblings first h.log h.now h.drawn n m (h.each id m at))))
      cut_apart j k a b (inr (inr p)) (inr (inl q)) ne = subst (λ x. Apart x b) p.1 (right_apart first h.log h.now h.drawn n m (h.each id m at) b (h.apart id k m b at q.1 (λ e. q.0 (sym e))))
      cut_apart j k a b (inr (inr p)) (inr (inr q)) ne = absurd (ne (p.0 ∙ sym q.0))

      -- a holder that was there is there still
      still : (k : ℕ) (a : Member O P R) → get_elem? s.views k ≡ some (Some a) → IsHolder a.stage → ((j : ℕ) (b : Member O P R) → get_elem? after j ≡ some (Some b) → IsHolder b.stage → ⊥) → ⊥
      still k a e held none_holds = ⊎_elim
          (λ p. none_holds id (left_of n m) (at_longer half (Some (right_of n m) ∷ []) id (Some (left_of n m)) (set_there s.views id (Some m) (Some (left_of n m)) at)) (subst (λ (x : Member O P R). IsHolder x.stage) (member_is a m (some-injective (Some a) (Some m) (sym (subst (λ i. get_elem? s.views i ≡ some (Some a)) p e) ∙ at))) held))
          (λ p. none_holds k a (at_longer half (Some (right_of n m) ∷ []) k (Some a) p) held)
          (kept_at s.views id k (Some (left_of n m)) (Some a) e)

      cut_kept : IsRuled acts first (record { words = s.words; homes = s.homes; views = after })
      cut_kept = record {
        log = h.log;
        now = h.now;
        drawn = h.drawn;
        runs = h.runs;
        words = h.words;
        calls = (let p = total_set lefts s.views id (Some m) (Some (left_of n m)) at in let q = total_snoc lefts half (Some (right_of n m)) in let r = h.calls in omega arith);
        waiting = (let p = total_set tickets s.views id (Some m) (Some (left_of n m)) at in let q = total_snoc tickets half (Some (right_of n m)) in let r = h.waiting in omega arith);
        each = cut_each;
        apart = (λ j k a b e g ne. cut_apart j k a b (was j a e) (was k b g) ne);
        home = (λ none_holds. h.home (λ k a e held. still k a e held none_holds));
      }

    pub cuts : (id n : ℕ) (v : Option (Member O P R)) → idle_of v ≡ true → n ≤ lefts v → Splits (IsRuled acts first) id v (cut_left n v) (cut_right n v)
    cuts id n None i e = absurd (true≢false (sym i))
    cuts id n (Some m) i e = λ s h at. cut_kept id n m s h at e

  pub idle_view : (me : Me (Option O) (Option (Member O P R))) → is_idle me ≡ true → idle_of me.0 ≡ true
  idle_view me e = and_left (idle_of me.0) (is_empty me.1) e
    where
      and_left : (a b : Bool) → (a && b) ≡ true → a ≡ true
      and_left true b e = refl
      and_left false b e = absurd (true≢false (sym e))

  pub empty_view : (me : Me (Option O) (Option (Member O P R))) → is_idle me ≡ true → me.1 ≡ []
  empty_view me e = empty me.1 (and_right (idle_of me.0) (is_empty me.1) e)
    where
      and_right : (a b : Bool) → (a && b) ≡ true → b ≡ true
      and_right true b e = e
      and_right false b e = absurd (true≢false (sym e))

      empty : (xs : List (ℕ × Option O)) → is_empty xs ≡ true → xs ≡ []
      empty [] e = refl
      empty (x ∷ xs) e = absurd (true≢false (sym e))

  idle_fits : (log : List (Entry P R)) (now : O) (drawn : ℕ) (seen : List (Entry P R)) (st : Stage O) → idle_stage st ≡ true → FitsStage log now drawn seen st
  idle_fits log now drawn seen Idle e = tt
  idle_fits log now drawn seen (Waits t) e = absurd (true≢false (sym e))
  idle_fits log now drawn seen (Holds t x) e = absurd (true≢false (sym e))

  module _ (first : O) (log : List (Entry P R)) (now : O) (drawn : ℕ) (a b : Member O P R) (f : Fits first log now drawn a) (g : Fits first log now drawn b) (idle : idle_stage a.stage ≡ true) where
    -- with the list that was seen
    abbrev shown : List (Entry P R) → Member O P R
    shown seen = record { first = a.first; number = a.number; stride = a.stride; left = a.left + b.left; stage = a.stage; seen = seen; mine = a.seen; other = b.seen }

    both_fits : (c : Bool) → nat_lt (length a.seen) (length b.seen) ≡ c → Fits first log now drawn (shown (if_longer c a.seen b.seen))
    both_fits true e =
        let p = shorter a.seen b.seen f.later g.later (sym f.whole ∙ g.whole) (grind (arith, nat_tests, e)) in
        let none = subst (NoneBy a.number) p.2 f.others in
        record {
          opening = f.opening;
          later = g.later;
          whole = g.whole;
          others = none_back a.number p.0 g.later none;
          ahead = f.ahead;
          gap = f.gap;
          own = (p.0, p.1, none_front a.number p.0 g.later none);
          met = ([], sym (append-nil b.seen));
          place = idle_fits log now drawn b.seen a.stage idle;
        }
    both_fits false e =
        let p = shorter b.seen a.seen g.later f.later (sym g.whole ∙ f.whole) (grind (arith, nat_tests, e)) in
        record {
          opening = f.opening;
          later = f.later;
          whole = f.whole;
          others = f.others;
          ahead = f.ahead;
          gap = f.gap;
          own = ([], sym (append-nil a.seen), tt);
          met = (p.0, p.1);
          place = idle_fits log now drawn a.seen a.stage idle;
        }

  module _ (acts : O → P → R → O → Type 0) (first : O) where
    module _ (id other : ℕ) (a b : Member O P R) (s : State (Option O) (Option (Member O P R))) (h : IsRuled acts first s) (at : get_elem? s.views id ≡ some (Some a)) (ne : ¬ (other ≡ id)) (there : get_elem? (set s.views id (Some (both_of a b))) other ≡ some (Some b)) (idle : idle_stage a.stage ≡ true) (idle' : idle_stage b.stage ≡ true) where
      abbrev once : List (Option (Member O P R))
      once = set s.views id (Some (both_of a b))

      abbrev after2 : List (Option (Member O P R))
      after2 = set once other None

      abbrev Is : ℕ → Member O P R → Type 0
      Is k x = ((k ≡ id) × (both_of a b ≡ x)) ⊎ ((k ≢ id) × (k ≢ other) × (get_elem? s.views k ≡ some (Some x)))

      before : get_elem? s.views other ≡ some (Some b)
      before = ⊎_elim (λ p. absurd (ne p.0)) (λ p. p.1) (at_set s.views id other (Some (both_of a b)) (Some b) there)

      is : (k : ℕ) (x : Member O P R) → get_elem? after2 k ≡ some (Some x) → Is k x
      is k x e = ⊎_elim
          (λ p. absurd (not_none x p.1))
          (λ p. ⊎_elim (λ q. inl (q.0, member_is (both_of a b) x q.1)) (λ q. inr (q.0, p.0, q.1)) (at_set s.views id k (Some (both_of a b)) (Some x) p.1))
          (at_set once other k None (Some x) e)

      fits : Fits first h.log h.now h.drawn (both_of a b)
      fits = both_fits first h.log h.now h.drawn a b (h.each id a at) (h.each other b before) idle (nat_lt (length a.seen) (length b.seen)) refl

      meet_each : (k : ℕ) (x : Member O P R) → get_elem? after2 k ≡ some (Some x) → Fits first h.log h.now h.drawn x
      meet_each k x e = ⊎_elim (λ p. subst (Fits first h.log h.now h.drawn) p.1 fits) (λ p. h.each k x p.2) (is k x e)

      like_first : (x : Member O P R) → Apart a x → Apart (both_of a b) x
      like_first x p = record { numbers = p.numbers; turns = p.turns }

      meet_apart : (j k : ℕ) (x y : Member O P R) → Is j x → Is k y → j ≢ k → Apart x y
      meet_apart j k x y (inl p) (inl q) off = absurd (off (p.0 ∙ sym q.0))
      meet_apart j k x y (inl p) (inr q) off = subst (λ z. Apart z y) p.1 (like_first y (h.apart id k a y at q.2 (λ e. q.0 (sym e))))
      meet_apart j k x y (inr p) (inl q) off = subst (Apart x) q.1 (flip (both_of a b) x (like_first x (h.apart id j a x at p.2 (λ e. p.0 (sym e)))))
      meet_apart j k x y (inr p) (inr q) off = h.apart j k x y p.2 q.2 off

      remains : (k : ℕ) (x : Member O P R) → get_elem? s.views k ≡ some (Some x) → IsHolder x.stage → ((j : ℕ) (y : Member O P R) → get_elem? after2 j ≡ some (Some y) → IsHolder y.stage → ⊥) → ⊥
      remains k x e held none_holds = ⊎_elim
          (λ p. idle_holds a.stage idle (subst (λ (z : Member O P R). IsHolder z.stage) (same id a p at) held))
          (λ p. ⊎_elim (λ q. idle_holds b.stage idle' (subst (λ (z : Member O P R). IsHolder z.stage) (same other b q before) held)) (λ q. none_holds k x q held) (kept_at once other k None (Some x) p))
          (kept_at s.views id k (Some (both_of a b)) (Some x) e)
        where
          same : (i : ℕ) (z : Member O P R) → k ≡ i → get_elem? s.views i ≡ some (Some z) → x ≡ z
          same i z p q = member_is x z (some-injective (Some x) (Some z) (sym (subst (λ i. get_elem? s.views i ≡ some (Some x)) p e) ∙ q))

      meet_kept : IsRuled acts first (record { words = s.words; homes = s.homes; views = after2 })
      meet_kept = record {
        log = h.log;
        now = h.now;
        drawn = h.drawn;
        runs = h.runs;
        words = h.words;
        calls = (let p = total_set lefts s.views id (Some a) (Some (both_of a b)) at in let q = total_set lefts once other (Some b) None there in let r = h.calls in omega arith);
        waiting = (let p = total_set tickets s.views id (Some a) (Some (both_of a b)) at in let q = total_set tickets once other (Some b) None there in let t = idle_tickets b.stage idle' in let r = h.waiting in omega arith);
        each = meet_each;
        apart = (λ j k x y e g off. meet_apart j k x y (is j x e) (is k y g) off);
        home = (λ none_holds. h.home (λ k x e held. remains k x e held none_holds));
      }

    pub meets : (id other : ℕ) (v w : Option (Member O P R)) → idle_of v ≡ true → idle_of w ≡ true → Joins (IsRuled acts first) id v other w (joined v w) None
    meets id other None w i j = absurd (true≢false (sym i))
    meets id other (Some a) None i j = absurd (true≢false (sym j))
    meets id other (Some a) (Some b) i j = λ s h at ne there. meet_kept id other a b s h at ne there i j

    pub learns : (slots id : ℕ) (me : Me (Option O) (Option (Member O P R))) → Allows (IsRuled acts first) slots id me 1 (λ n. n) (Learned (step slots 1 0 0 none) me)
    learns slots id me s h size at bound = (me.0, keeps, tt, same, (refl, known me.0 at))
      where
        same : IsRuled acts first (record { words = set s.words 1 (slice_index s.words 1); homes = s.homes; views = set s.views id me.0 })
        same = rw (set_again s.views id me.0 at) (subst (λ ws. IsRuled acts first (record { words = set ws 1 (slice_index ws 1); homes = s.homes; views = s.views })) (sym h.words) (subst (λ ws. IsRuled acts first (record { words = ws; homes = s.homes; views = s.views })) h.words h))

        known : (v : Option (Member O P R)) → get_elem? s.views id ≡ some v → Known v
        known None e = tt
        known (Some m) e =
            let f = h.each id m e in
            let p = part_total lefts s.views id (Some m) e in
            let q = h.calls in
            let r = h.waiting in
            let l : length h.log ≡ length m.seen + length f.later = ap length f.whole ∙ length-append m.seen f.later in
            (f.own, f.met, (omega arith))
