-- No part takes headers of an earlier one for another slice.
use Rattle.std.proofs.Common.{◌≡◌, ℕ, ◌<◌, true, false, List, [], ◌∷◌, get_or, filter_map, All, AllPairs, Some, option_map, refl, sym, subst, ◌∙◌, ap, arith, inl, inr}
use Rattle.std.proofs.lemmas.Bool.{cases_Bool, cases_lt, cases_eq, cond-true, cond-false, true≢false}
use Rattle.std.proofs.lemmas.List.{get_or_default}
use Rattle.std.proofs.lemmas.List.Elements.{All-nil, All-cons}
use Rattle.std.proofs.lemmas.List.Kept.{AllPairs-cons}
use Rattle.of10_model.proofs.Pairs.{AllPairs-nil}
use Rattle.flowspace.specs.declared.rules.Rule.{Rule}
use Rattle.flowspace.specs.Rules.{is_written_by, ShareHeader, Yields}
use Rattle.flowspace.proofs.Refusing.{is_value-Some, Some-is_value}
use Rattle.flowmod_expand.proofs.Somewhere.{All-filter_map}
use Rattle.nested_slices.specs.Flat.{DivisionView, outer_slot, inner_slot, kept, part, parts, divided, numbered}
use Rattle.nested_slices.specs.Space.{HasWriter}
use Rattle.nested_slices.proofs.Lists.{AllPairs-flat_map, AllPairs-filter_map}
use Rattle.nested_slices.proofs.Joining.{part_is, IsWithin, within_outer, within_inner, option_map-Some}

-- ---- shared headers

pub within_itself : (r : Rule) → IsWithin r r
within_itself r = record { on = λ datapath on. on; has_header = λ h k. k }

pub within_kept : (d : DivisionView) (r : Rule) → IsWithin (kept d r) r
within_kept d r = record { on = λ datapath on. on; has_header = λ h k. k }

pub within_numbered : (n : ℕ) (r : Rule) → IsWithin (numbered n r) r
within_numbered n r = record { on = λ datapath on. on; has_header = λ h k. k }

pub shares : (b c x y : Rule) → IsWithin b x → IsWithin c y → ShareHeader b c → ShareHeader x y
shares b c x y in_x in_y share = record {
  datapath = share.datapath;
  on_first = in_x.on share.datapath share.on_first;
  on_second = in_y.on share.datapath share.on_second;
  header = share.header;
  in_range = share.in_range;
  in_first = in_x.has_header share.header share.in_first;
  in_second = in_y.has_header share.header share.in_second;
}

turned : (a b : Rule) → ShareHeader a b → ShareHeader b a
turned a b share = record {
  datapath = share.datapath;
  on_first = share.on_second;
  on_second = share.on_first;
  header = share.header;
  in_range = share.in_range;
  in_first = share.in_second;
  in_second = share.in_first;
}

-- ---- two parts

-- two rules yield as those do within which they lie, where their writers are moved alike
yields_moved : (f : ℕ → ℕ) (b c x y : Rule) → IsWithin b x → IsWithin c y → b.writer ≡ option_map f x.writer → c.writer ≡ option_map f y.writer → Yields x y → Yields b c
yields_moved f b c x y in_x in_y wb wc yields = λ share slot written.
    let from = option_map-Some f y.writer slot (sym wc ∙ written) in
    let first = yields (shares b c x y in_x in_y share) from.0 from.1 in
    wb ∙ ap (option_map f) first ∙ ap Some from.2

-- two rules of which the holder writes one alone share no header that one of them may take
yields_never : (b c x y : Rule) → IsWithin b x → IsWithin c y → Yields x y → ((s : ℕ) → y.writer ≡ Some s → x.writer ≡ Some s → ⊥) → ((slot : ℕ) → c.writer ≡ Some slot → (s : ℕ) × (y.writer ≡ Some s)) → Yields b c
yields_never b c x y in_x in_y yields never from = λ share slot written.
    let s = from slot written in
    absurd (never s.0 s.1 (yields (shares b c x y in_x in_y share) s.0 s.1))

-- ---- inner rules

-- each two inner rules that share a header have one writer, in whichever order they stand
agree : (qs : List Rule) → AllPairs Yields qs → All HasWriter qs → All (λ q. All (Yields q) qs) qs
agree qs pairs written = λ i d lt. λ j e long.
    elim (cases_lt i j) [
      | inl before ↦ subst (Yields (get_or qs i d)) (get_or_default qs j d e long) (pairs i j d before long)
      | inr from ↦
          elim (cases_eq i j) [
            | inl same ↦
                let is : get_or qs i d ≡ get_or qs j e = ap (λ n. get_or qs n d) same ∙ get_or_default qs j d e long in
                subst (Yields (get_or qs i d)) is (λ share slot w. w)
            | inr other ↦
                let after : j < i = omega arith in
                let back : Yields (get_or qs j e) (get_or qs i d) = subst (Yields (get_or qs j e)) (get_or_default qs i e d lt) (pairs j i e after lt) in
                let own = written i d lt in
                λ share slot w. own.1 ∙ sym (back (turned (get_or qs i d) (get_or qs j e) share) own.0 own.1) ∙ w
          ]
    ]

-- ---- the parts of two outer rules

pub All-parts : (P : Rule → Type 0) (d : DivisionView) (r : Rule) → (is_written_by d.slot r ≡ true → All P (filter_map (part d r) d.rules)) → (is_written_by d.slot r ≡ false → P (kept d r)) → All P (parts d r)
All-parts P d r mine other =
    elim (cases_Bool (is_written_by d.slot r)) [
      | inl is ↦ subst (All P) (sym (cond-true (is_written_by d.slot r) (filter_map (part d r) d.rules) (kept d r ∷ []) is)) (mine is)
      | inr isnt ↦ subst (All P) (sym (cond-false (is_written_by d.slot r) (filter_map (part d r) d.rules) (kept d r ∷ []) isnt)) (All-cons P (kept d r) [] (other isnt) (All-nil P))
    ]

-- the holder writes the first alone, or the second alone
first_alone : (d : DivisionView) (x y : Rule) → is_written_by d.slot x ≡ true → is_written_by d.slot y ≡ false → (s : ℕ) → y.writer ≡ Some s → x.writer ≡ Some s → ⊥
first_alone d x y is isnt s wy wx =
    let holder = is_value-Some d.slot x.writer is in
    true≢false (sym (Some-is_value d.slot y.writer (wy ∙ sym wx ∙ holder)) ∙ isnt)

second_alone : (d : DivisionView) (x y : Rule) → is_written_by d.slot x ≡ false → is_written_by d.slot y ≡ true → (s : ℕ) → y.writer ≡ Some s → x.writer ≡ Some s → ⊥
second_alone d x y isnt is s wy wx =
    let holder = is_value-Some d.slot y.writer is in
    true≢false (sym (Some-is_value d.slot x.writer (wx ∙ sym wy ∙ holder)) ∙ isnt)

across : (d : DivisionView) → All (λ q. All (Yields q) d.rules) d.rules → (x y : Rule) → Yields x y → All (λ b. All (Yields b) (parts d y)) (parts d x)
across d agreed x y yields =
    All-parts (λ b. All (Yields b) (parts d y)) d x
    (λ is_x. All-filter_map (λ b. All (Yields b) (parts d y)) (part d x) d.rules (λ k e lt. λ b made.
    let q = get_or d.rules k e in
    let own = part_is d x q b made in
    All-parts (Yields b) d y
    (λ is_y. All-filter_map (Yields b) (part d y) d.rules (λ l f long. λ c made'.
    let q' = get_or d.rules l f in
    let own' = part_is d y q' c made' in
    yields_moved (inner_slot d) b c q q' (within_inner d x q b own) (within_inner d y q' c own') own.writer own'.writer (agreed k e lt l f long)))
    (λ no_y. yields_never b (kept d y) x y (within_outer d x q b own) (within_kept d y) yields (first_alone d x y is_x no_y)
    (λ slot w. let s = option_map-Some (outer_slot d) y.writer slot w in (s.0, s.1)))))
    (λ no_x. All-parts (Yields (kept d x)) d y
    (λ is_y. All-filter_map (Yields (kept d x)) (part d y) d.rules (λ l f long. λ c made'.
    let q' = get_or d.rules l f in
    let own' = part_is d y q' c made' in
    yields_never (kept d x) c x y (within_kept d x) (within_outer d y q' c own') yields (second_alone d x y no_x is_y) (λ slot w. (d.slot, is_value-Some d.slot y.writer is_y))))
    (λ no_y. yields_moved (outer_slot d) (kept d x) (kept d y) x y (within_kept d x) (within_kept d y) refl refl yields))

own_parts : (d : DivisionView) → AllPairs Yields d.rules → (x : Rule) → AllPairs Yields (parts d x)
own_parts d pairs x =
    elim (cases_Bool (is_written_by d.slot x)) [
      | inl is ↦
          subst (AllPairs Yields) (sym (cond-true (is_written_by d.slot x) (filter_map (part d x) d.rules) (kept d x ∷ []) is))
          (AllPairs-filter_map Yields Yields (part d x) (λ q q' b c yields made made'.
          let own = part_is d x q b made in
          let own' = part_is d x q' c made' in
          yields_moved (inner_slot d) b c q q' (within_inner d x q b own) (within_inner d x q' c own') own.writer own'.writer yields) d.rules pairs)
      | inr isnt ↦
          subst (AllPairs Yields) (sym (cond-false (is_written_by d.slot x) (filter_map (part d x) d.rules) (kept d x ∷ []) isnt))
          (AllPairs-cons Yields (kept d x) [] (All-nil (Yields (kept d x))) (AllPairs-nil Yields))
    ]

-- no part of accepted outer rules takes headers of an earlier one for another slice, where the inner rules are accepted and all written
pub divided_yield : (d : DivisionView) (rules : List Rule) → AllPairs Yields d.rules → All HasWriter d.rules → AllPairs Yields rules → AllPairs Yields (divided d rules)
divided_yield d rules inner written outer = AllPairs-flat_map Yields Yields (parts d) (across d (agree d.rules inner written)) (own_parts d inner) rules outer
