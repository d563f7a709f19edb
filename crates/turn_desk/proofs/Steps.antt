-- Drawing, looking and passing keep the rule.
use Rattle.std.proofs.Common.{◌≡◌, ◌≢◌, ◌⊎◌, ℕ, suc, ◌+◌, ◌-◌, ◌*◌, ◌%◌, ◌^◌, ◌<◌, ◌≤◌, Bool, true, false, true≢false, List, [], ◌∷◌, ◌++◌, length, set, refl, sym, ap, ◌∙◌, subst, inl, inr, ⊎_elim, arith, append-nil, append_assoc, length-append}
use Rattle.std.specs.Prelude.{◌==◌, slice_index, MatchBool}
use Rattle.std.proofs.lemmas.Bool.Decides.{nat_tests}
use Rattle.std.specs.declared.option.Option.{Option}
use Rattle.std.specs.declared.option.Option.TheVariants.{None, Some}
use mathlib.Core.Option.{some, none, some-injective}
use lib.ListN.{get_elem?}
use Rattle.atomic_table.proofs.Lists.{at_set, set_again, set_here}
use Rattle.atomic_table.specs.Table.{Me, State, Act, Valid, carried_after, Allows, step, keeps, takes, gives, stepped}
use Rattle.turn_desk.specs.declared.view.Entry.{Entry}
use Rattle.turn_desk.specs.declared.view.Stage.{Stage}
use Rattle.turn_desk.specs.declared.view.Stage.TheVariants.{Idle, Waits, Holds}
use Rattle.turn_desk.specs.declared.view.Member.{Member}
use Rattle.turn_desk.specs.Histories.{NoneBy, Runs, entry}
use Rattle.turn_desk.specs.Rule.{HasTicket, tickets_of, IsHolder, lefts, tickets, FitsStage, Fits, Apart, IsRuled, idle_of, idle_stage, staged, Drawn, HasTurn, Looked, LookedAt, Passed}
use Rattle.turn_desk.proofs.Lists.{part_total, total_set, set_there, kept_at}
use Rattle.turn_desk.proofs.Keeps.{member_is, flip, idle_tickets}

module _ {O : Type 0} where
  not_holder : (st : Stage O) → idle_stage st ≡ true → IsHolder st → ⊥
  not_holder Idle e h = h
  not_holder (Waits t) e h = h
  not_holder (Holds t x) e h = true≢false (sym e)

module _ {P R : Type 0} where
  none_snoc : (n : ℕ) (xs : List (Entry P R)) (e : Entry P R) → NoneBy n xs → e.by ≢ n → NoneBy n (xs ++ e ∷ [])
  none_snoc n [] e h ne = (ne, tt)
  none_snoc n (x ∷ xs) e h ne = (h.0, none_snoc n xs e h.1 ne)

module _ {O P R : Type 0} (acts : O → P → R → O → Type 0) where
  pub runs_snoc : (xs : List (Entry P R)) (first now last : O) (e : Entry P R) → Runs acts first xs now → acts now e.op e.reply last → Runs acts first (xs ++ e ∷ []) last
  runs_snoc [] first now last e h a = (last, subst (λ (x : O). acts x e.op e.reply last) (sym h) a, refl)
  runs_snoc (x ∷ xs) first now last e h a = (h.0, h.1, runs_snoc xs h.0 now last e h.2 a)

module _ {O P R : Type 0} where
  -- no ticket is as late as this
  below : (log : List (Entry P R)) (now : O) (drawn : ℕ) (seen : List (Entry P R)) (st : Stage O) (t : ℕ) → FitsStage log now drawn seen st → HasTicket st t → (length log ≤ t) × (t < drawn)
  below log now drawn seen Idle t f h = absurd h
  below log now drawn seen (Waits k) t f h = subst (λ i. (length log ≤ i) × (i < drawn)) h f
  below log now drawn seen (Holds k x) t f h = subst (λ i. (length log ≤ i) × (i < drawn)) h ((let p = f.0 in omega arith), f.1)

  more_drawn : (log : List (Entry P R)) (now : O) (drawn : ℕ) (seen : List (Entry P R)) (st : Stage O) → FitsStage log now drawn seen st → FitsStage log now (suc drawn) seen st
  more_drawn log now drawn seen Idle f = tt
  more_drawn log now drawn seen (Waits k) f = (f.0, (let p = f.1 in omega arith))
  more_drawn log now drawn seen (Holds k x) f = (f.0, (let p = f.1 in omega arith), f.2, f.3)

  module _ (first : O) (log : List (Entry P R)) (now : O) (drawn : ℕ) (a : Member O P R) (f : Fits first log now drawn a) where
    fits_drawn : Fits first log now (suc drawn) a
    fits_drawn = record { opening = f.opening; later = f.later; whole = f.whole; others = f.others; ahead = f.ahead; gap = f.gap; own = f.own; met = f.met; place = more_drawn log now drawn a.seen a.stage f.place }

  module _ (acts : O → P → R → O → Type 0) (first : O) (id : ℕ) (m w : Member O P R) (s : State (Option O) (Option (Member O P R))) (h : IsRuled acts first s) (at : get_elem? s.views id ≡ some (Some m)) where
    abbrev next : List (Option (Member O P R))
    next = set s.views id (Some w)

    abbrev There : ℕ → Member O P R → Type 0
    There k a = ((k ≡ id) × (w ≡ a)) ⊎ ((k ≢ id) × (get_elem? s.views k ≡ some (Some a)))

    there : (k : ℕ) (a : Member O P R) → get_elem? next k ≡ some (Some a) → There k a
    there k a e = ⊎_elim (λ p. inl (p.0, member_is w a p.1)) (λ p. inr p) (at_set s.views id k (Some w) (Some a) e)

    each_next : (log : List (Entry P R)) (now : O) (drawn : ℕ) → Fits first log now drawn w
        → ((k : ℕ) (a : Member O P R) → k ≢ id → get_elem? s.views k ≡ some (Some a) → Fits first log now drawn a)
        → (k : ℕ) (a : Member O P R) → get_elem? next k ≡ some (Some a) → Fits first log now drawn a
    each_next log now drawn mine others k a e = ⊎_elim (λ p. subst (Fits first log now drawn) p.1 mine) (λ p. others k a p.0 p.1) (there k a e)

    apart_both : ((k : ℕ) (b : Member O P R) → k ≢ id → get_elem? s.views k ≡ some (Some b) → Apart w b) → (j k : ℕ) (a b : Member O P R) → There j a → There k b → j ≢ k → Apart a b
    apart_both x j k a b (inl p) (inl q) ne = absurd (ne (p.0 ∙ sym q.0))
    apart_both x j k a b (inl p) (inr q) ne = subst (λ z. Apart z b) p.1 (x k b q.0 q.1)
    apart_both x j k a b (inr p) (inl q) ne = subst (Apart a) q.1 (flip w a (x j a p.0 p.1))
    apart_both x j k a b (inr p) (inr q) ne = h.apart j k a b p.1 q.1 ne

    apart_next : ((k : ℕ) (b : Member O P R) → k ≢ id → get_elem? s.views k ≡ some (Some b) → Apart w b) → (j k : ℕ) (a b : Member O P R) → get_elem? next j ≡ some (Some a) → get_elem? next k ≡ some (Some b) → j ≢ k → Apart a b
    apart_next x j k a b e g ne = apart_both x j k a b (there j a e) (there k b g) ne

    -- where m holds nothing, a holder that was there is there still
    holder_next : (IsHolder m.stage → ⊥) → ((j : ℕ) (b : Member O P R) → get_elem? next j ≡ some (Some b) → IsHolder b.stage → ⊥) → (k : ℕ) (a : Member O P R) → get_elem? s.views k ≡ some (Some a) → IsHolder a.stage → ⊥
    holder_next not_m none_holds k a e held = ⊎_elim
        (λ p. not_m (subst (λ (z : Member O P R). IsHolder z.stage) (member_is a m (some-injective (Some a) (Some m) (sym (subst (λ i. get_elem? s.views i ≡ some (Some a)) p e) ∙ at))) held))
        (λ p. none_holds k a p held)
        (kept_at s.views id k (Some w) (Some a) e)

  module _ (acts : O → P → R → O → Type 0) (first : O) where
    module _ (id : ℕ) (m : Member O P R) (s : State (Option O) (Option (Member O P R))) (h : IsRuled acts first s) (at : get_elem? s.views id ≡ some (Some m)) (idle : idle_stage m.stage ≡ true) (some_left : 0 < m.left) where
      abbrev waiting : Member O P R
      waiting = staged m (m.left - 1) (Waits h.drawn) m.seen

      bound : h.drawn < 2 ^ 63
      bound = let p = part_total lefts s.views id (Some m) at in let q = h.calls in omega arith

      up : suc h.drawn ≡ (h.drawn + 1) % 2 ^ 64
      up = let b = bound in omega arith

      waits_fits : Fits first h.log h.now (suc h.drawn) waiting
      waits_fits = let f = h.each id m at in
          record { opening = f.opening; later = f.later; whole = f.whole; others = f.others; ahead = f.ahead; gap = f.gap; own = ([], sym (append-nil m.seen), tt); met = f.met; place = ((let p = h.waiting in omega arith), (omega arith)) }

      waits_apart : (k : ℕ) (b : Member O P R) → k ≢ id → get_elem? s.views k ≡ some (Some b) → Apart waiting b
      waits_apart k b ne e = record {
        numbers = (h.apart id k m b at e (λ q. ne (sym q))).numbers;
        turns = (λ t p q. let r = below h.log h.now h.drawn b.seen b.stage t (h.each k b e).place q in let l = r.1 in let u : h.drawn ≡ t = p in absurd (omega arith));
      }

      draw_kept : IsRuled acts first (record { words = suc h.drawn ∷ length h.log ∷ []; homes = s.homes; views = set s.views id (Some waiting) })
      draw_kept = record {
        log = h.log;
        now = h.now;
        drawn = suc h.drawn;
        runs = h.runs;
        words = refl;
        calls = (let p = total_set lefts s.views id (Some m) (Some waiting) at in let r = h.calls in omega arith);
        waiting = (let p = total_set tickets s.views id (Some m) (Some waiting) at in let q = idle_tickets m.stage idle in let r = h.waiting in omega arith);
        each = each_next acts first id m waiting s h at h.log h.now (suc h.drawn) waits_fits (λ k a ne e. fits_drawn first h.log h.now h.drawn a (h.each k a e));
        apart = apart_next acts first id m waiting s h at waits_apart;
        home = (λ none_holds. h.home (holder_next acts first id m waiting s h at (not_holder m.stage idle) none_holds));
      }

      draw_state : IsRuled acts first (record { words = set s.words 0 ((slice_index s.words 0 + 1) % 2 ^ 64); homes = s.homes; views = set s.views id (Some waiting) })
      draw_state = subst (λ ws. IsRuled acts first (record { words = set ws 0 ((slice_index ws 0 + 1) % 2 ^ 64); homes = s.homes; views = set s.views id (Some waiting) })) (sym h.words)
          (subst (λ k. IsRuled acts first (record { words = k ∷ length h.log ∷ []; homes = s.homes; views = set s.views id (Some waiting) })) up draw_kept)

    pub draws : (slots id : ℕ) (v : Option (Member O P R)) (c : List (ℕ × Option O)) → idle_of v ≡ true → 0 < lefts v → Allows (IsRuled acts first) slots id (v, c) 0 (λ n. (n + 1) % 2 ^ 64) (Drawn (step slots 0 1 0 none) (v, c))
    draws slots id None c idle left = absurd (true≢false (sym idle))
    draws slots id (Some m) c idle left = λ s h size at fits. (
      Some (waiting id m s h at idle left),
      keeps,
      tt,
      draw_state id m s h at idle left,
      subst (λ ws. Drawn (step slots 0 1 0 none) (Some m, c) (slice_index ws 0) (Some (waiting id m s h at idle left), c)) (sym h.words) (refl, bound id m s h at idle left),
    )

    module _ (id t : ℕ) (m : Member O P R) (s : State (Option O) (Option (Member O P R))) (h : IsRuled acts first s) (at : get_elem? s.views id ≡ some (Some m)) (waits : m.stage ≡ Waits t) (turn : length h.log ≡ t) where
      abbrev holding : Member O P R
      holding = staged m m.left (Holds t h.now) h.log

      mine : Fits first h.log h.now h.drawn m
      mine = h.each id m at

      ticket : HasTicket m.stage t
      ticket = subst (λ st. HasTicket st t) (sym waits) refl

      in_line : (length h.log ≤ t) × (t < h.drawn)
      in_line = below h.log h.now h.drawn m.seen m.stage t mine.place ticket

      holds_fits : Fits first h.log h.now h.drawn holding
      holds_fits = record {
        opening = mine.opening;
        later = [];
        whole = sym (append-nil h.log);
        others = tt;
        ahead = mine.ahead;
        gap = mine.gap;
        own = ([], sym (append-nil h.log), tt);
        met = (mine.met.0 ++ mine.later, mine.whole ∙ (ap (λ l. l ++ mine.later) mine.met.1 ∙ append_assoc m.other mine.met.0 mine.later));
        place = (sym turn, in_line.1, refl, refl);
      }

      holds_apart : (k : ℕ) (b : Member O P R) → k ≢ id → get_elem? s.views k ≡ some (Some b) → Apart holding b
      holds_apart k b ne e = let x = h.apart id k m b at e (λ q. ne (sym q)) in record { numbers = x.numbers; turns = (λ u p q. x.turns u (subst (HasTicket m.stage) p ticket) q) }

      held_at : (st : Stage O) (seen : List (Entry P R)) → FitsStage h.log h.now h.drawn seen st → IsHolder st → HasTicket st t
      held_at Idle seen f held = absurd held
      held_at (Waits k) seen f held = absurd held
      held_at (Holds k x) seen f held = f.0 ∙ turn

      not_waiting : (st : Stage O) → st ≡ Waits t → IsHolder st → ⊥
      not_waiting st e held = subst IsHolder e held

      -- whoever held the object had this very ticket
      no_holder : (k : ℕ) (a : Member O P R) → get_elem? s.views k ≡ some (Some a) → IsHolder a.stage → ⊥
      no_holder k a e held = ⊎_elim
          (λ p. not_waiting m.stage waits (subst (λ (z : Member O P R). IsHolder z.stage) (member_is a m (some-injective (Some a) (Some m) (sym (subst (λ i. get_elem? s.views i ≡ some (Some a)) p e) ∙ at))) held))
          (λ p. (h.apart id k m a at e (λ q. not_there k a p (sym q))).turns t ticket (held_at a.stage a.seen (h.each k a e).place held))
          (kept_at s.views id k (None) (Some a) e)
        where
          not_there : (k : ℕ) (a : Member O P R) → get_elem? (set s.views id None) k ≡ some (Some a) → k ≡ id → ⊥
          not_there k a p q = ⊎_elim (λ (x : (k ≡ id) × (None ≡ Some a)). not_some a x.1) (λ (x : (k ≢ id) × (get_elem? s.views k ≡ some (Some a))). x.0 q) (at_set s.views id k None (Some a) p)
            where
              not_some : (a : Member O P R) → None ≡ Some a → ⊥
              not_some a e = cc

      one_ticket : tickets_of m.stage ≡ 1
      one_ticket = subst (λ st. tickets_of st ≡ 1) (sym waits) refl

      turn_kept : IsRuled acts first (record { words = s.words; homes = set s.homes 0 none; views = set s.views id (Some holding) })
      turn_kept = record {
        log = h.log;
        now = h.now;
        drawn = h.drawn;
        runs = h.runs;
        words = h.words;
        calls = (let p = total_set lefts s.views id (Some m) (Some holding) at in let r = h.calls in omega arith);
        waiting = (let p = total_set tickets s.views id (Some m) (Some holding) at in let q = one_ticket in let r = h.waiting in omega arith);
        each = each_next acts first id m holding s h at h.log h.now h.drawn holds_fits (λ k a ne e. h.each k a e);
        apart = apart_next acts first id m holding s h at holds_apart;
        home = (λ none_holds. absurd (none_holds id holding (set_there s.views id (Some m) (Some holding) at) tt));
      }

      has_turn : HasTurn acts t m (Some holding, (0, Some h.now) ∷ [])
      has_turn = record { object = h.now; log = h.log; between = mine.later; view = refl; goes_on = mine.whole; others = mine.others; legal = subst (λ x. Runs acts x h.log h.now) (sym mine.opening) h.runs; size = turn }

    same_words : (ws : List ℕ) (a b : ℕ) → ws ≡ a ∷ b ∷ [] → set ws 1 (slice_index ws 1) ≡ ws
    same_words ws a b e = subst (λ xs. set xs 1 (slice_index xs 1) ≡ xs) (sym e) refl

    pub looks : (slots id t : ℕ) (m : Member O P R) → m.stage ≡ Waits t → Allows (IsRuled acts first) slots id (Some m, []) 1 (λ n. n) (Looked acts (step slots 1 0 0 none) (Some m, []))
    looks slots id t m waits s h size at fits = subst (λ found. Goal found) (sym found) (by_turn (length h.log == t) refl)
      where
        found : slice_index s.words 1 ≡ length h.log
        found = subst (λ ws. slice_index ws 1 ≡ length h.log) (sym h.words) refl

        Goal : ℕ → Type 0
        Goal found = (w : Option (Member O P R)) × (a : Act (Option O)) × Valid s.homes [] a × IsRuled acts first (stepped s 1 (slice_index s.words 1) id [] w a) × Looked acts (step slots 1 0 0 none) (Some m, []) found (w, carried_after [] a)

        tells : (found : ℕ) (b : Bool) (you : Me (Option O) (Option (Member O P R))) → (found == t) ≡ b → MatchBool b (HasTurn acts t m you) (you ≡ (Some m, [])) → LookedAt acts m.stage m (Some m, []) found you
        tells found b you e x = subst (λ st. LookedAt acts st m (Some m, []) found you) (sym waits) (subst (λ c. MatchBool c (HasTurn acts t m you) (you ≡ (Some m, []))) (sym e) x)

        by_turn : (b : Bool) → (length h.log == t) ≡ b → Goal (length h.log)
        by_turn true e =
            let turn : length h.log ≡ t = grind (arith, nat_tests, e) in (
              Some (holding id t m s h at waits turn),
              takes 0 (Some h.now),
              h.home (no_holder id t m s h at waits turn),
              subst (λ ws. IsRuled acts first (record { words = ws; homes = set s.homes 0 none; views = set s.views id (Some (holding id t m s h at waits turn)) })) (sym (same_words s.words h.drawn (length h.log) h.words)) (turn_kept id t m s h at waits turn),
              tells (length h.log) true _ e (has_turn id t m s h at waits turn),
            )
        by_turn false e = (
          Some m,
          keeps,
          tt,
          subst (λ ws. IsRuled acts first (record { words = ws; homes = s.homes; views = set s.views id (Some m) })) (sym (same_words s.words h.drawn (length h.log) h.words)) (rw (set_again s.views id (Some m) at) h),
          tells (length h.log) false _ e refl,
        )

    module _ (id t : ℕ) (m : Member O P R) (x y : O) (op : P) (reply : R) (s : State (Option O) (Option (Member O P R))) (h : IsRuled acts first s) (at : get_elem? s.views id ≡ some (Some m)) (holds : m.stage ≡ Holds t x) (acted : acts x op reply y) where
      abbrev new : Entry P R
      new = entry m.number op reply

      abbrev passed : Member O P R
      passed = staged m m.left Idle (m.seen ++ new ∷ [])

      abbrev log' : List (Entry P R)
      log' = h.log ++ new ∷ []

      m_fits : Fits first h.log h.now h.drawn m
      m_fits = h.each id m at

      place : FitsStage h.log h.now h.drawn m.seen (Holds t x)
      place = subst (FitsStage h.log h.now h.drawn m.seen) holds m_fits.place

      m_ticket : HasTicket m.stage t
      m_ticket = subst (λ st. HasTicket st t) (sym holds) refl

      one : tickets_of m.stage ≡ 1
      one = subst (λ st. tickets_of st ≡ 1) (sym holds) refl

      longer : length log' ≡ suc (length h.log)
      longer = length-append h.log (new ∷ []) ∙ (omega arith)

      size_bound : length h.log < 2 ^ 63
      size_bound = let p = h.calls in let q = place.0 in let r = place.1 in omega arith

      not_ahead : (i : ℕ) → m.number ≢ m.number + suc i * m.stride
      not_ahead i e = let g = m_fits.gap in let p : suc i * m.stride ≡ i * m.stride + m.stride = grind arith in absurd (omega arith)

      passed_fits : Fits first log' y h.drawn passed
      passed_fits = record {
        opening = m_fits.opening;
        later = [];
        whole = ap (λ l. l ++ new ∷ []) (sym place.3) ∙ sym (append-nil (m.seen ++ new ∷ []));
        others = tt;
        ahead = (λ i. none_snoc (m.number + suc i * m.stride) h.log new (m_fits.ahead i) (not_ahead i));
        gap = m_fits.gap;
        own = ([], sym (append-nil (m.seen ++ new ∷ [])), tt);
        met = (m_fits.met.0 ++ new ∷ [], ap (λ l. l ++ new ∷ []) m_fits.met.1 ∙ append_assoc m.other m_fits.met.0 (new ∷ []));
        place = tt;
      }

      passed_apart : (k : ℕ) (b : Member O P R) → k ≢ id → get_elem? s.views k ≡ some (Some b) → Apart passed b
      passed_apart k b ne e = record { numbers = (h.apart id k m b at e (λ q. ne (sym q))).numbers; turns = (λ u p q. p) }

      -- the stage of another seat, after the pass
      later_stage : (st : Stage O) (seen : List (Entry P R)) → FitsStage h.log h.now h.drawn seen st → (HasTicket st t → ⊥) → FitsStage log' y h.drawn seen st
      later_stage Idle seen f ne = tt
      later_stage (Waits k) seen f ne = ((let p : k ≢ t = ne in let q = place.0 in let r = f.0 in let l = longer in omega arith), f.1)
      later_stage (Holds k z) seen f ne = absurd (ne (f.0 ∙ sym place.0))

      other_fits : (k : ℕ) (b : Member O P R) → k ≢ id → get_elem? s.views k ≡ some (Some b) → Fits first log' y h.drawn b
      other_fits k b ne e =
          let f = h.each k b e in
          let a = h.apart id k m b at e (λ q. ne (sym q)) in
          record {
            opening = f.opening;
            later = f.later ++ new ∷ [];
            whole = ap (λ l. l ++ new ∷ []) f.whole ∙ append_assoc b.seen f.later (new ∷ []);
            others = none_snoc b.number f.later new f.others (λ q. a.numbers 0 0 (here m.number m.stride ∙ (q ∙ sym (here b.number b.stride))));
            ahead = (λ i. none_snoc (b.number + suc i * b.stride) h.log new (f.ahead i) (λ q. a.numbers 0 (suc i) (here m.number m.stride ∙ q)));
            gap = f.gap;
            own = f.own;
            met = f.met;
            place = later_stage b.stage b.seen f.place (λ q. a.turns t m_ticket q);
          }
        where
          here : (n d : ℕ) → n + 0 * d ≡ n
          here n d = grind arith

      pass_kept : 0 < length s.homes → IsRuled acts first (record { words = h.drawn ∷ suc (length h.log) ∷ []; homes = set s.homes 0 (some (Some y)); views = set s.views id (Some passed) })
      pass_kept room = record {
        log = log';
        now = y;
        drawn = h.drawn;
        runs = runs_snoc acts h.log first h.now y new h.runs (subst (λ z. acts z op reply y) place.2 acted);
        words = ap (λ k. h.drawn ∷ k ∷ []) (sym longer);
        calls = (let p = total_set lefts s.views id (Some m) (Some passed) at in let r = h.calls in omega arith);
        waiting = (let p = total_set tickets s.views id (Some m) (Some passed) at in let q = one in let r = h.waiting in let l = longer in omega arith);
        each = each_next acts first id m passed s h at log' y h.drawn passed_fits other_fits;
        apart = apart_next acts first id m passed s h at passed_apart;
        home = (λ none_holds. set_here s.homes 0 (some (Some y)) room);
      }

      pass_state : 0 < length s.homes → IsRuled acts first (record { words = set s.words 1 ((slice_index s.words 1 + 1) % 2 ^ 64); homes = set s.homes 0 (some (Some y)); views = set s.views id (Some passed) })
      pass_state room = subst (λ ws. IsRuled acts first (record { words = set ws 1 ((slice_index ws 1 + 1) % 2 ^ 64); homes = set s.homes 0 (some (Some y)); views = set s.views id (Some passed) })) (sym h.words)
          (subst (λ k. IsRuled acts first (record { words = h.drawn ∷ k ∷ []; homes = set s.homes 0 (some (Some y)); views = set s.views id (Some passed) })) up_one (pass_kept room))
        where
          up_one : suc (length h.log) ≡ (length h.log + 1) % 2 ^ 64
          up_one = let b = size_bound in omega arith

    pub passes : (slots id t : ℕ) (m : Member O P R) (x y : O) (op : P) (reply : R) → 0 < slots → m.stage ≡ Holds t x → acts x op reply y
        → Allows (IsRuled acts first) slots id (Some m, (0, Some y) ∷ []) 1 (λ n. (n + 1) % 2 ^ 64) (Passed (Some op) (Some reply) (step slots 1 1 0 none) (Some m, (0, Some y) ∷ []))
    passes slots id t m x y op reply room holds acted s h size at fits = (
      Some (passed id t m x y op reply s h at holds acted),
      gives,
      tt,
      pass_state id t m x y op reply s h at holds acted (let p = size in omega arith),
      refl,
    )
