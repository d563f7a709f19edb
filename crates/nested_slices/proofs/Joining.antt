-- What a rule that the holder writes and an inner one allow together, and where slices stand.
use Rattle.std.proofs.Common.{◌≡◌, ◌≢◌, ℕ, ◌+◌, ◌-◌, ◌<◌, ◌⊎◌, ◌≤◌, ◌==◌, true, ltb, Option, Some, None, option_map, refl, sym, subst, ◌∙◌, ap, arith, inl, inr, eqb-true, eq-eqb}
use Rattle.std.proofs.lemmas.Bool.{cases_lt, cond-true, cond-false, lt-ltb, le-ltb}
use Rattle.std.proofs.lemmas.Option.{same_Some, cond_some}
use Rattle.of10_model.specs.declared.pattern.Pattern.{Pattern}
use Rattle.of10_model.specs.Header.{Header}
use Rattle.of10_model.specs.Pattern.{Has}
use Rattle.of10_model.specs.Meet.{both, meet_of}
use Rattle.of10_model.proofs.Meeting.{some_meet, none_meet}
use Rattle.flowspace.specs.declared.rules.Rule.{Rule}
use Rattle.flowspace.specs.Rules.{names_switch, holds}
use Rattle.nested_slices.specs.Flat.{DivisionView, outer_slot, inner_slot, outer_readers, inner_readers, joined, part}

-- ---- switches

-- a switch on which what two name together holds is one of both
on_each : (c d e : Option ℕ) (datapath : ℕ) → both c d ≡ Some e → names_switch e datapath ≡ true → (names_switch c datapath ≡ true) × (names_switch d datapath ≡ true)
on_each None d e datapath is on = (refl, ap (λ o. names_switch o datapath) (same_Some d e is) ∙ on)
on_each (Some v) None e datapath is on = (ap (λ o. names_switch o datapath) (same_Some (Some v) e is) ∙ on, refl)
on_each (Some v) (Some w) e datapath is on =
    let chosen = cond_some (v == w) (Some v) e is in
    let first : (v == datapath) ≡ true = ap (λ o. names_switch o datapath) chosen.1 ∙ on in
    (first, eq-eqb w datapath (sym (eqb-true v w chosen.0) ∙ eqb-true v datapath first))

-- and of a switch of both there is what they name together
on_joined : (c d : Option ℕ) (datapath : ℕ) → names_switch c datapath ≡ true → names_switch d datapath ≡ true → (e : Option ℕ) × (both c d ≡ Some e) × (names_switch e datapath ≡ true)
on_joined None d datapath on_c on_d = (d, refl, on_d)
on_joined (Some v) None datapath on_c on_d = (Some v, refl, on_c)
on_joined (Some v) (Some w) datapath on_c on_d =
    let same = eq-eqb v w (eqb-true v datapath on_c ∙ sym (eqb-true w datapath on_d)) in
    (Some v, cond-true (v == w) (Some (Some v)) None same, on_c)

-- ---- matches

a_meet : (a b : Pattern) (h : Header) → Has a h → Has b h → (o : Option Pattern) → meet_of a b ≡ o → (k : Pattern) × (meet_of a b ≡ Some k) × Has k h
a_meet a b h in_a in_b None e = absurd (none_meet a b e h in_a in_b)
a_meet a b h in_a in_b (Some k) e = (k, e, (some_meet a b k e h).1 (in_a, in_b))

-- ---- one part

pub record IsPart (d : DivisionView) (r q p : Rule) : Type 0 where
  pub switch : both r.switch q.switch ≡ Some p.switch
  pub pattern : meet_of r.pattern q.pattern ≡ Some p.pattern
  pub writer : p.writer ≡ option_map (inner_slot d) q.writer
  pub readers : p.readers ≡ outer_readers d r.readers + inner_readers d q.readers

joined_is : (o : Option (Option ℕ)) (m : Option Pattern) (w : Option ℕ) (n : ℕ) (p : Rule) → joined o m w n ≡ Some p → (o ≡ Some p.switch) × (m ≡ Some p.pattern) × (p.writer ≡ w) × (p.readers ≡ n)
joined_is None m w n p e = absurd (cc)
joined_is (Some s) None w n p e = absurd (cc)
joined_is (Some s) (Some m) w n p e =
    let made : Rule = record { switch = s; priority = 0; pattern = m; writer = w; readers = n } in
    let is : made ≡ p = same_Some made p e in
    (ap (λ (r : Rule). Some r.switch) is, ap (λ (r : Rule). Some r.pattern) is, sym (ap (λ (r : Rule). r.writer) is), sym (ap (λ (r : Rule). r.readers) is))

pub part_is : (d : DivisionView) (r q p : Rule) → part d r q ≡ Some p → IsPart d r q p
part_is d r q p e =
    let is = joined_is (both r.switch q.switch) (meet_of r.pattern q.pattern) (option_map (inner_slot d) q.writer) (outer_readers d r.readers + inner_readers d q.readers) p e in
    record { switch = is.0; pattern = is.1; writer = is.2; readers = is.3 }

joined_at : (o : Option (Option ℕ)) (m : Option Pattern) (w : Option ℕ) (n : ℕ) (s : Option ℕ) (k : Pattern) → o ≡ Some s → m ≡ Some k → joined o m w n ≡ Some (record { switch = s; priority = 0; pattern = k; writer = w; readers = n })
joined_at o m w n s k e f = rw (e, f) refl

-- it holds where both do, and has the headers of both
pub record IsWithin (p r : Rule) : Type 0 where
  pub on : (datapath : ℕ) → holds datapath p ≡ true → holds datapath r ≡ true
  pub has_header : (h : Header) → Has p.pattern h → Has r.pattern h

pub within_outer : (d : DivisionView) (r q p : Rule) → IsPart d r q p → IsWithin p r
within_outer d r q p is = record {
  on = λ datapath on. (on_each r.switch q.switch p.switch datapath is.switch on).0;
  has_header = λ h k. ((some_meet r.pattern q.pattern p.pattern is.pattern h).0 k).0;
}

pub within_inner : (d : DivisionView) (r q p : Rule) → IsPart d r q p → IsWithin p q
within_inner d r q p is = record {
  on = λ datapath on. (on_each r.switch q.switch p.switch datapath is.switch on).1;
  has_header = λ h k. ((some_meet r.pattern q.pattern p.pattern is.pattern h).0 k).1;
}

-- a part that holds on a switch and has a header
pub record PartAt (d : DivisionView) (r q : Rule) (datapath : ℕ) (h : Header) : Type 0 where
  pub rule : Rule
  pub is : part d r q ≡ Some rule
  pub on : holds datapath rule ≡ true
  pub has_header : Has rule.pattern h

pub part_at : (d : DivisionView) (r q : Rule) (datapath : ℕ) (h : Header) → holds datapath r ≡ true → holds datapath q ≡ true → Has r.pattern h → Has q.pattern h → PartAt d r q datapath h
part_at d r q datapath h on_r on_q in_r in_q =
    let switch = on_joined r.switch q.switch datapath on_r on_q in
    let meet = a_meet r.pattern q.pattern h in_r in_q (meet_of r.pattern q.pattern) refl in
    record {
      rule = record { switch = switch.0; priority = 0; pattern = meet.0; writer = option_map (inner_slot d) q.writer; readers = outer_readers d r.readers + inner_readers d q.readers };
      is = joined_at (both r.switch q.switch) (meet_of r.pattern q.pattern) (option_map (inner_slot d) q.writer) (outer_readers d r.readers + inner_readers d q.readers) switch.0 meet.0 switch.1 meet.1;
      on = switch.2;
      has_header = meet.2;
    }

-- ---- slots

pub option_map-Some : (f : ℕ → ℕ) (o : Option ℕ) (n : ℕ) → option_map f o ≡ Some n → (s : ℕ) × (o ≡ Some s) × (f s ≡ n)
option_map-Some f None n e = absurd (cc)
option_map-Some f (Some s) n e = (s, refl, same_Some (f s) n e)

less : (a b : ℕ) → a ≤ b → a ≢ b → a < b
less a b le differs =
    elim (cases_lt a b) [
      | inl lt ↦ lt
      | inr ge ↦ absurd (differs (omega arith))
    ]

-- where another outer slice stands: behind the holder one lower, before it as it was
pub record Behind (d : DivisionView) (s : ℕ) : Type 0 where
  pub after : d.slot < s
  pub is : outer_slot d s ≡ s - 1

pub record Before (d : DivisionView) (s : ℕ) : Type 0 where
  pub under : s < d.slot
  pub is : outer_slot d s ≡ s

pub stands : (d : DivisionView) (s : ℕ) → s ≢ d.slot → Behind d s ⊎ Before d s
stands d s differs =
    elim (cases_lt d.slot s) [
      | inl after ↦ inl (record { after = after; is = cond-true (ltb d.slot s) (s - 1) s (lt-ltb d.slot s after) })
      | inr le ↦ inr (record { under = less s d.slot le differs; is = cond-false (ltb d.slot s) (s - 1) s (le-ltb d.slot s le) })
    ]

-- another outer slice stands before the inner ones
pub outer_before : (d : DivisionView) (s : ℕ) → s < d.others + 1 → s ≢ d.slot → d.slot < d.others + 1 → outer_slot d s < d.others
outer_before d s lt differs is_slot =
    elim (stands d s differs) [
      | inl k ↦ let after = k.after in subst (λ n. n < d.others) (sym k.is) (omega arith)
      | inr k ↦ let under = k.under in subst (λ n. n < d.others) (sym k.is) (omega arith)
    ]

-- no two other outer slices come to one place
pub outer_apart : (d : DivisionView) (s u : ℕ) → s ≢ d.slot → u ≢ d.slot → outer_slot d s ≡ outer_slot d u → s ≡ u
outer_apart d s u ns nu same =
    elim (stands d s ns) [
      | inl k ↦
          elim (stands d u nu) [
            | inl l ↦ let a = k.after in let b = l.after in let e : s - 1 ≡ u - 1 = sym k.is ∙ same ∙ l.is in omega arith
            | inr l ↦ let a = k.after in let b = l.under in let e : s - 1 ≡ u = sym k.is ∙ same ∙ l.is in absurd (omega arith)
          ]
      | inr k ↦
          elim (stands d u nu) [
            | inl l ↦ let a = k.under in let b = l.after in let e : s ≡ u - 1 = sym k.is ∙ same ∙ l.is in absurd (omega arith)
            | inr l ↦ sym k.is ∙ same ∙ l.is
          ]
    ]
