-- How many rules come of a division.
use Rattle.std.proofs.Common.{◌≡◌, ℕ, ◌+◌, ◌==◌, ◌&&◌, not, true, false, List, [], ◌∷◌, length, filter_map, if◌then◌else◌, is_some, Option, Some, None, refl, sym, ◌∙◌, arith, inl, inr, count_by, eqb-true, eq-eqb}
use Rattle.std.specs.List.{sum_by, cons_option}
use Rattle.std.proofs.lemmas.Bool.{cases_Bool, ne_eqb, true≢false}
use Rattle.std.proofs.lemmas.List.Sums.{sum_by-cons}
use Rattle.std.proofs.lemmas.List.Concat.{length-flat_map}
use Rattle.of10_model.specs.declared.pattern.Pattern.{Pattern}
use Rattle.of10_model.specs.Meet.{both, meet_of}
use Rattle.flowspace.specs.declared.rules.Rule.{Rule}
use Rattle.flowspace.specs.Rules.{have_switch, is_written_by}
use Rattle.nested_slices.specs.Flat.{DivisionView, joined, part, parts, divided, by_place, flat_rules}
use Rattle.nested_slices.specs.Counting.{may_join, parts_count, flat_count}

pub by_place_length : (rs : List Rule) → length (by_place rs) ≡ length rs
by_place_length [] = refl
by_place_length (r ∷ rest) = let same = by_place_length rest in omega arith

both_some : (c d : Option ℕ) → is_some (both c d) ≡ have_switch c d
both_some None d = refl
both_some (Some v) None = refl
both_some (Some v) (Some w) =
    elim (cases_Bool (v == w)) [
      | inl same ↦ let e = eqb-true v w same in rw (same, eq-eqb w v (sym e)) refl
      | inr differ ↦ rw (differ, ne_eqb w v (λ e. true≢false (sym (eq-eqb v w (sym e)) ∙ differ))) refl
    ]

joined_some : (o : Option (Option ℕ)) (m : Option Pattern) (w : Option ℕ) (n : ℕ) → is_some (joined o m w n) ≡ (is_some o && is_some m)
joined_some None m w n = refl
joined_some (Some s) None w n = refl
joined_some (Some s) (Some m) w n = refl

meet_some : (o : Option Pattern) → is_some o ≡ not (elim o [ None ↦ true | Some r ↦ false ])
meet_some None = refl
meet_some (Some r) = refl

part_some : (d : DivisionView) (r q : Rule) → is_some (part d r q) ≡ may_join r q
part_some d r q = joined_some (both r.switch q.switch) (meet_of r.pattern q.pattern) _ _ ∙ rw (both_some r.switch q.switch, meet_some (meet_of r.pattern q.pattern)) refl

given_count : {A : Type 0} (o : Option A) (ys : List A) → length (cons_option o ys) ≡ (if is_some o then 1 else 0) + length ys
given_count None ys = omega arith
given_count (Some y) ys = omega arith

part_count : (d : DivisionView) (r : Rule) (qs : List Rule) → length (filter_map (part d r) qs) ≡ count_by (may_join r) qs
part_count d r [] = refl
part_count d r (q ∷ qs) =
    given_count (part d r q) (filter_map (part d r) qs)
    ∙ rw (part_some d r q, part_count d r qs) refl
    ∙ sym (sum_by-cons (λ x. if may_join r x then 1 else 0) q qs)

parts_counted : (d : DivisionView) (r : Rule) → length (parts d r) ≡ parts_count d.slot d.rules r
parts_counted d r =
    elim (cases_Bool (is_written_by d.slot r)) [
      | inl is ↦ rw is (part_count d r d.rules)
      | inr isnt ↦ rw isnt refl
    ]

pub sums_same : {A : Type 0} (f g : A → ℕ) (xs : List A) → ((x : A) → f x ≡ g x) → sum_by f xs ≡ sum_by g xs
sums_same f g [] same = refl
sums_same f g (x ∷ xs) same = sum_by-cons f x xs ∙ rw (same x, sums_same f g xs same) refl ∙ sym (sum_by-cons g x xs)

pub counted : (d : DivisionView) (rules : List Rule) → length (flat_rules d rules) ≡ flat_count d.slot d.rules rules
counted d rules =
    by_place_length (divided d rules)
    ∙ length-flat_map (parts d) rules
    ∙ sums_same (λ r. length (parts d r)) (parts_count d.slot d.rules) rules (parts_counted d)
