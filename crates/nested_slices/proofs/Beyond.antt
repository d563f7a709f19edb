-- Headers that no inner rule has.
use Rattle.std.proofs.Common.{◌≡◌, ℕ, ◌+◌, ◌&&◌, not, Bool, false, List, [], ◌∷◌, ◌++◌, get_or, find, filter, filter_map, All, Option, Some, None, option_map, option_and_then, refl, sym, ◌∙◌, ap, arith, inl, inr}
use Rattle.std.specs.Prelude.{unwrap_or}
use Rattle.std.proofs.lemmas.Bool.{cases_Bool, and_parts, and_from, false_from_ne_true, true≢false}
use Rattle.std.proofs.lemmas.Nat.{pow_pos}
use Rattle.std.proofs.Math.Nat.{div-eq_of_lt, mod-eq_of_lt}
use Rattle.std.proofs.lemmas.List.Elements.{All-head, All-tail}
use Rattle.std.proofs.lemmas.List.Sorted.{All-permutation}
use Rattle.of10_model.specs.Header.{Header}
use Rattle.of10_model.specs.Pattern.{has}
use Rattle.of10_model.proofs.Membership.{Has-has, has-Has}
use Rattle.flowspace.specs.declared.rules.Rule.{Rule}
use Rattle.flowspace.specs.Rules.{holds, is_written_by}
use Rattle.flowspace.specs.Order.{in_order, rules_on, first_rule, writer_of, readers_of}
use Rattle.flowspace.specs.Policies.{PolicyView}
use Rattle.flowspace.proofs.Ordering.{in_order-filter, IsPermutation-in_order}
use Rattle.flowspace.proofs.Owning.{first_rule-find}
use Rattle.flowmod_expand.proofs.Somewhere.{All-filter_map}
use Rattle.nested_slices.specs.Flat.{DivisionView, outer_slot, outer_readers, part, divided, by_place, flat_rules, division_of, flat}
use Rattle.nested_slices.proofs.Joining.{part_is, within_inner}
use Rattle.nested_slices.proofs.Placing.{in_order-by_place}

-- a rule holds on a switch and has a header
abbrev is_hit : ℕ → Header → Rule → Bool
is_hit datapath h r = holds datapath r && has r.pattern h

-- the first rule of a switch that has the header is the first that holds there and has it
found_on : (p q : Rule → Bool) (rs : List Rule) → find p (filter q rs) ≡ find (λ r. q r && p r) rs
found_on p q [] = refl
found_on p q (r ∷ rs) =
    elim (cases_Bool (q r)) [
      | inl passes ↦
          elim (cases_Bool (p r)) [
            | inl here ↦ rw (passes, here) refl
            | inr isnt ↦ rw (passes, isnt) (found_on p q rs)
          ]
      | inr fails ↦ rw fails (found_on p q rs)
    ]

first_hit : (rs : List Rule) (datapath : ℕ) (h : Header) → first_rule (rules_on datapath rs) h ≡ find (is_hit datapath h) (in_order rs)
first_hit rs datapath h =
    first_rule-find (rules_on datapath rs) h
    ∙ ap (find (λ r. has r.pattern h)) (in_order-filter (holds datapath) rs)
    ∙ found_on (λ r. has r.pattern h) (holds datapath) (in_order rs)

-- what counts of the rule that is found
abbrev Shown : Type 0
Shown = Option ℕ × ℕ

abbrev shown : Rule → Shown
shown r = (r.writer, r.readers)

abbrev shown_kept : DivisionView → Rule → Shown
shown_kept d r = (option_map (outer_slot d) r.writer, outer_readers d r.readers)

module _ (datapath : ℕ) (h : Header) where
  found_placed : (rs : List Rule) → option_map shown (find (is_hit datapath h) (by_place rs)) ≡ option_map shown (find (is_hit datapath h) rs)
  found_placed [] = refl
  found_placed (r ∷ rest) =
      elim (cases_Bool (is_hit datapath h r)) [
        | inl here ↦ rw here refl
        | inr isnt ↦ rw isnt (found_placed rest)
      ]

  skipped : (xs ys : List Rule) → All (λ x. is_hit datapath h x ≡ false) xs → find (is_hit datapath h) (xs ++ ys) ≡ find (is_hit datapath h) ys
  skipped [] ys none = refl
  skipped (x ∷ xs) ys none = rw (All-head (λ x. is_hit datapath h x ≡ false) x xs none) (skipped xs ys (All-tail (λ x. is_hit datapath h x ≡ false) x xs none))

  no_part : (d : DivisionView) (r : Rule) → All (λ q. is_hit datapath h q ≡ false) d.rules → All (λ p. is_hit datapath h p ≡ false) (filter_map (part d r) d.rules)
  no_part d r none =
      All-filter_map (λ p. is_hit datapath h p ≡ false) (part d r) d.rules (λ k e lt. λ p made.
      let q = get_or d.rules k e in
      let inner = within_inner d r q p (part_is d r q p made) in
      false_from_ne_true (is_hit datapath h p) (λ hit.
      let both = and_parts (holds datapath p) (has p.pattern h) hit in
      let again = and_from (holds datapath q) (has q.pattern h) (inner.on datapath both.0) (has-Has q.pattern h (inner.has_header h (Has-has p.pattern h both.1))) in
      true≢false (sym again ∙ none k e lt)))

  found_divided : (d : DivisionView) → All (λ q. is_hit datapath h q ≡ false) d.rules → (rs : List Rule)
      → option_map shown (find (is_hit datapath h) (divided d rs)) ≡ option_map (shown_kept d) (find (is_hit datapath h) (filter (λ r. not (is_written_by d.slot r)) rs))
  found_divided d none [] = refl
  found_divided d none (r ∷ rs) =
      elim (cases_Bool (is_written_by d.slot r)) [
        | inl is ↦ rw is (ap (option_map shown) (skipped (filter_map (part d r) d.rules) (divided d rs) (no_part d r none)) ∙ found_divided d none rs)
        | inr isnt ↦
            elim (cases_Bool (is_hit datapath h r)) [
              | inl here ↦ rw (isnt, here) refl
              | inr past ↦ rw (isnt, past) (found_divided d none rs)
            ]
      ]

  -- what the flat rules show of the header
  shows : (d : DivisionView) → All (λ q. is_hit datapath h q ≡ false) d.rules → (rs : List Rule)
      → option_map shown (find (is_hit datapath h) (in_order (flat_rules d rs))) ≡ option_map (shown_kept d) (find (is_hit datapath h) (filter (λ r. not (is_written_by d.slot r)) rs))
  shows d none rs = ap (λ xs. option_map shown (find (is_hit datapath h) xs)) (in_order-by_place (divided d rs)) ∙ found_placed (divided d rs) ∙ found_divided d none rs

writer_shown : (o : Option Rule) → option_and_then (λ r. r.writer) o ≡ option_and_then (λ (s : Shown). s.0) (option_map shown o)
writer_shown None = refl
writer_shown (Some r) = refl

writer_kept : (d : DivisionView) (o : Option Rule) → option_and_then (λ (s : Shown). s.0) (option_map (shown_kept d) o) ≡ option_map (outer_slot d) (option_and_then (λ r. r.writer) o)
writer_kept d None = refl
writer_kept d (Some r) = refl

readers_shown : (o : Option Rule) → unwrap_or (option_map (λ (r : Rule). r.readers) o) 0 ≡ unwrap_or (option_map (λ (s : Shown). s.1) (option_map shown o)) 0
readers_shown None = refl
readers_shown (Some r) = refl

no_readers : (d : DivisionView) → outer_readers d 0 ≡ 0
no_readers d = rw (mod-eq_of_lt (pow_pos d.slot), div-eq_of_lt (pow_pos (d.slot + 1))) (omega arith)

readers_kept : (d : DivisionView) (o : Option Rule) → unwrap_or (option_map (λ (s : Shown). s.1) (option_map (shown_kept d) o)) 0 ≡ outer_readers d (unwrap_or (option_map (λ (r : Rule). r.readers) o) 0)
readers_kept d None = sym (no_readers d)
readers_kept d (Some r) = refl

-- the other outer rules of a switch
rest_hit : (d : DivisionView) (rs : List Rule) (datapath : ℕ) (h : Header) → first_rule (rules_on datapath (filter (λ r. not (is_written_by d.slot r)) rs)) h ≡ find (is_hit datapath h) (filter (λ r. not (is_written_by d.slot r)) (in_order rs))
rest_hit d rs datapath h = first_hit (filter (λ r. not (is_written_by d.slot r)) rs) datapath h ∙ ap (find (is_hit datapath h)) (in_order-filter (λ r. not (is_written_by d.slot r)) rs)

none_in_order : (rs : List Rule) (datapath : ℕ) (h : Header) → All (λ q. is_hit datapath h q ≡ false) rs → All (λ q. is_hit datapath h q ≡ false) (in_order rs)
none_in_order rs datapath h none = All-permutation (λ q. is_hit datapath h q ≡ false) rs (in_order rs) (IsPermutation-in_order rs) none

pub goes_on_writer : (outer : PolicyView) (slot : ℕ) (inner : PolicyView) (datapath : ℕ) (h : Header) → All (λ q. (holds datapath q && has q.pattern h) ≡ false) inner.rules
    → writer_of (rules_on datapath (flat outer slot inner).rules) h ≡ option_map (outer_slot (division_of outer slot inner)) (writer_of (rules_on datapath (filter (λ r. not (is_written_by slot r)) outer.rules)) h)
unfolding flat
goes_on_writer outer slot inner datapath h none =
    let d = division_of outer slot inner in
    let rs = in_order outer.rules in
    ap (option_and_then (λ r. r.writer)) (first_hit (flat outer slot inner).rules datapath h)
    ∙ writer_shown (find (is_hit datapath h) (in_order (flat_rules d rs)))
    ∙ ap (option_and_then (λ (s : Shown). s.0)) (shows datapath h d (none_in_order inner.rules datapath h none) rs)
    ∙ writer_kept d (find (is_hit datapath h) (filter (λ r. not (is_written_by d.slot r)) rs))
    ∙ ap (λ o. option_map (outer_slot d) (option_and_then (λ r. r.writer) o)) (sym (rest_hit d outer.rules datapath h))

pub goes_on_readers : (outer : PolicyView) (slot : ℕ) (inner : PolicyView) (datapath : ℕ) (h : Header) → All (λ q. (holds datapath q && has q.pattern h) ≡ false) inner.rules
    → readers_of (rules_on datapath (flat outer slot inner).rules) h ≡ outer_readers (division_of outer slot inner) (readers_of (rules_on datapath (filter (λ r. not (is_written_by slot r)) outer.rules)) h)
unfolding flat
goes_on_readers outer slot inner datapath h none =
    let d = division_of outer slot inner in
    let rs = in_order outer.rules in
    ap (λ o. unwrap_or (option_map (λ (r : Rule). r.readers) o) 0) (first_hit (flat outer slot inner).rules datapath h)
    ∙ readers_shown (find (is_hit datapath h) (in_order (flat_rules d rs)))
    ∙ ap (λ o. unwrap_or (option_map (λ (s : Shown). s.1) o) 0) (shows datapath h d (none_in_order inner.rules datapath h none) rs)
    ∙ readers_kept d (find (is_hit datapath h) (filter (λ r. not (is_written_by d.slot r)) rs))
    ∙ ap (λ o. outer_readers d (unwrap_or (option_map (λ (r : Rule). r.readers) o) 0)) (sym (rest_hit d outer.rules datapath h))
