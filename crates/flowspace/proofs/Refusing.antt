-- The test of two rules answers by the headers that they share.
use Rattle.std.proofs.Common.{◌≡◌, ◌≢◌, ℕ, true, false, not, ◌&&◌, IsTrue, Option, Some, None, refl, sym, ap, ◌∙◌, inl, inr, eqb-true, eq-eqb}
use Rattle.std.proofs.lemmas.Bool.{cases_Bool, and_parts, and_from, true≢false, not-true, not_from_false, false_from_ne_true, true_from_ne_false}
use Rattle.of10_model.specs.declared.pattern.Pattern.{Pattern}
use Rattle.of10_model.specs.Normal.{is_value, IsInRange}
use Rattle.of10_model.specs.Meet.{meet_of, is_disjoint}
use Rattle.of10_model.proofs.Disjointness.{shared, Disjoint-none}
use Rattle.flowspace.specs.declared.rules.Rule.{Rule}
use Rattle.flowspace.specs.Rules.{names_switch, have_switch, is_usurped, is_refused, ShareHeader, Yields}
use Rattle.flowspace.proofs.Parts.{have_switch-names}

-- ---- writers

pub is_value-Some : (slot : ℕ) (o : Option ℕ) → is_value slot o ≡ true → o ≡ Some slot
is_value-Some slot None e = absurd (true≢false (sym e))
is_value-Some slot (Some x) e = ap Some (eqb-true x slot e)

pub Some-is_value : (slot : ℕ) (o : Option ℕ) → o ≡ Some slot → is_value slot o ≡ true
Some-is_value slot o e = rw e (eq-eqb slot slot refl)

-- a slot that writes the later rule, and not the earlier
record Usurper (earlier later : Option ℕ) : Type 0 where
  slot : ℕ
  writes : later ≡ Some slot
  not_earlier : earlier ≢ Some slot

usurper_of : (earlier later : Option ℕ) → is_usurped earlier later ≡ true → Usurper earlier later
usurper_of earlier None e = absurd (true≢false (sym e))
usurper_of earlier (Some slot) e = record {
  slot = slot;
  writes = refl;
  not_earlier = λ same. true≢false (sym (Some-is_value slot earlier same) ∙ not-true (is_value slot earlier) e);
}

usurped : (earlier later : Option ℕ) (slot : ℕ) → later ≡ Some slot → is_value slot earlier ≡ false → is_usurped earlier later ≡ true
usurped earlier later slot e none = rw e (not_from_false (is_value slot earlier) none)

-- ---- switches

-- a switch on which both hold
pub record OnBoth (c d : Option ℕ) : Type 0 where
  pub datapath : ℕ
  pub first : IsTrue (names_switch c datapath)
  pub second : IsTrue (names_switch d datapath)

pub on_both : (c d : Option ℕ) → have_switch c d ≡ true → OnBoth c d
on_both None None e = record { datapath = 0; first = refl; second = refl }
on_both None (Some y) e = record { datapath = y; first = refl; second = eq-eqb y y refl }
on_both (Some x) None e = record { datapath = x; first = eq-eqb x x refl; second = refl }
on_both (Some x) (Some y) e = record { datapath = x; first = eq-eqb x x refl; second = e }

-- ---- headers

meet_or_not : (o : Option Pattern) → elim o [ None ↦ true | Some r ↦ false ] ≡ true → o ≡ None
meet_or_not None e = refl
meet_or_not (Some r) e = absurd (true≢false (sym e))

record Meet (a b : Pattern) : Type 0 where
  match : Pattern
  is : meet_of a b ≡ Some match

a_meet : (a b : Pattern) (o : Option Pattern) → meet_of a b ≡ o → elim o [ None ↦ true | Some r ↦ false ] ≡ false → Meet a b
a_meet a b None e h = absurd (true≢false h)
a_meet a b (Some r) e h = record { match = r; is = e }

-- ---- two rules

-- what a refusal means
pub record Refusal (earlier later : Rule) : Type 0 where
  pub share : ShareHeader earlier later
  pub slot : ℕ
  pub written : later.writer ≡ Some slot
  pub not_written : earlier.writer ≢ Some slot

pub Refusal-is_refused : (earlier later : Rule) → IsInRange earlier.pattern → IsInRange later.pattern → is_refused earlier later ≡ true → Refusal earlier later
unfolding is_refused
Refusal-is_refused earlier later i j e =
    let parts = and_parts (is_usurped earlier.writer later.writer && have_switch earlier.switch later.switch) (not (is_disjoint earlier.pattern later.pattern)) e in
    let rules = and_parts (is_usurped earlier.writer later.writer) (have_switch earlier.switch later.switch) parts.0 in
    let who = usurper_of earlier.writer later.writer rules.0 in
    let both = on_both earlier.switch later.switch rules.1 in
    let meet = a_meet earlier.pattern later.pattern (meet_of earlier.pattern later.pattern) refl (not-true (is_disjoint earlier.pattern later.pattern) parts.1) in
    let h = shared earlier.pattern later.pattern meet.match i j meet.is in
    record {
      share = record {
        datapath = both.datapath;
        on_first = both.first;
        on_second = both.second;
        header = h.0;
        in_range = h.1;
        in_first = h.2;
        in_second = h.3;
      };
      slot = who.slot;
      written = who.writes;
      not_written = who.not_earlier;
    }

-- a rule that isn't refused yields
pub Yields-is_refused : (earlier later : Rule) → is_refused earlier later ≡ false → Yields earlier later
unfolding is_refused
Yields-is_refused earlier later e = λ share slot written.
    elim (cases_Bool (is_value slot earlier.writer)) [
      | inl same ↦ is_value-Some slot earlier.writer same
      | inr other ↦
          let taken = usurped earlier.writer later.writer slot written other in
          let together = have_switch-names share.datapath earlier.switch later.switch share.on_first share.on_second in
          let disjoint : is_disjoint earlier.pattern later.pattern ≡ true =
          true_from_ne_false (is_disjoint earlier.pattern later.pattern)
          (λ f. true≢false (sym (and_from (is_usurped earlier.writer later.writer && have_switch earlier.switch later.switch) (not (is_disjoint earlier.pattern later.pattern))
          (and_from (is_usurped earlier.writer later.writer) (have_switch earlier.switch later.switch) taken together)
          (not_from_false (is_disjoint earlier.pattern later.pattern) f)) ∙ e)) in
          let none = meet_or_not (meet_of earlier.pattern later.pattern) disjoint in
          absurd (Disjoint-none earlier.pattern later.pattern none share.header share.in_range share.in_first share.in_second)
    ]

-- a rule that yields isn't refused
pub is_refused-Yields : (earlier later : Rule) → IsInRange earlier.pattern → IsInRange later.pattern → Yields earlier later → is_refused earlier later ≡ false
is_refused-Yields earlier later i j yields =
    false_from_ne_true (is_refused earlier later)
    (λ t. let refusal = Refusal-is_refused earlier later i j t in refusal.not_written (yields refusal.share refusal.slot refusal.written))

-- a rule that takes headers of an earlier one is refused
pub is_refused-ShareHeader : (earlier later : Rule) (slot : ℕ) → ShareHeader earlier later → later.writer ≡ Some slot → earlier.writer ≢ Some slot → is_refused earlier later ≡ true
is_refused-ShareHeader earlier later slot share written not_written =
    true_from_ne_false (is_refused earlier later) (λ f. not_written (Yields-is_refused earlier later f share slot written))
