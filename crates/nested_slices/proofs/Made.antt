-- What the lists of a flat policy are made of fits, and how many they are.
use Rattle.std.proofs.Common.{◌≡◌, ℕ, ◌+◌, ◌-◌, ◌*◌, ◌^◌, ◌<◌, ◌≤◌, List, length, All, IfSome, Option, Some, None, refl, sym, subst, ◌∙◌, ap, arith, inl, inr, if◌then◌else◌}
use Rattle.std.proofs.Math.Pow.{pow_mono}
use Rattle.std.proofs.lemmas.Bool.{cases_Bool}
use Rattle.std.proofs.lemmas.Nat.{pow-add, row_fits}
use Rattle.std.proofs.lemmas.List.Sorted.{All-permutation, sum_by-IsPermutation}
use Rattle.flowspace.specs.declared.slices.Slice.{Slice}
use Rattle.flowspace.specs.declared.rules.Rule.{Rule}
use Rattle.flowspace.specs.Rules.{is_written_by}
use Rattle.flowspace.specs.Order.{in_order}
use Rattle.flowspace.specs.Policies.{PolicyView, AreProper}
use Rattle.flowspace.specs.Faults.{NamesSlots}
use Rattle.flowspace.proofs.Ordering.{IsPermutation-in_order}
use Rattle.nested_slices.specs.Flat.{DivisionView, by_place, divided, division_of, flat}
use Rattle.nested_slices.specs.Counting.{may_join, parts_count, flat_count}
use Rattle.nested_slices.specs.Space.{IsGiven, FitsBehind, Fits}
use Rattle.nested_slices.proofs.Counted.{by_place_length, counted, sums_same}
use Rattle.nested_slices.proofs.Whole.{flat_slices_length, others_more}

-- ---- slots

names_slots : (ss : List Slice) (rs : List Rule) → AreProper ss rs → All (NamesSlots (length ss)) rs
names_slots ss rs proper = λ k d lt. record { writer_known = proper.writers_known k d lt; readers_known = proper.readers_known k d lt }

names_in_order : (ss : List Slice) (rs : List Rule) → AreProper ss rs → All (NamesSlots (length ss)) (in_order rs)
names_in_order ss rs proper = All-permutation (NamesSlots (length ss)) rs (in_order rs) (IsPermutation-in_order rs) (names_slots ss rs proper)

behind_others : (others slices : ℕ) (w : Option ℕ) → others + slices ≤ 32 → IfSome w (λ t. t < slices) → IfSome w (λ t. others + t < 32)
behind_others others slices None few below = tt
behind_others others slices (Some t) few below = omega arith

readers_behind : (others slices readers : ℕ) → others + slices ≤ 32 → readers < 2 ^ slices → readers * 2 ^ others + 2 ^ others ≤ 2 ^ 32
readers_behind others slices readers few below =
    let row = row_fits readers (2 ^ others) (2 ^ slices) (2 ^ others) below (omega arith) in
    let whole : 2 ^ (slices + others) ≡ 2 ^ slices * 2 ^ others = pow-add 2 slices others in
    let le : slices + others ≤ 32 = omega arith in
    let most : 2 ^ (slices + others) ≤ 2 ^ 32 = pow_mono le in
    omega arith

fits_behind : (d : DivisionView) (slices : ℕ) (q : Rule) → d.others + slices ≤ 32 → NamesSlots slices q → FitsBehind d q
fits_behind d slices q few known = record {
  writer_fits = behind_others d.others slices q.writer few known.writer_known;
  readers_fit = readers_behind d.others slices q.readers few known.readers_known;
}

pub flat_long : (outer : PolicyView) (slot : ℕ) (inner : PolicyView) → slot < length outer.slices → length (flat outer slot inner).slices ≡ (length outer.slices - 1) + length inner.slices
unfolding flat
flat_long outer slot inner lt = flat_slices_length outer.slices inner.slices slot lt

-- a division of so few slices fits
pub division_fits : (outer : PolicyView) (slot : ℕ) (inner : PolicyView) → IsGiven outer slot inner → length (flat outer slot inner).slices ≤ 32 → Fits (division_of outer slot inner)
division_fits outer slot inner given few =
    let lt = given.is_slot in
    let long = flat_long outer slot inner lt in
    let some = given.inner_policy.proper.some_slice in
    let known = names_in_order inner.slices inner.rules given.inner_policy.proper in
    let room : (length outer.slices - 1) + length inner.slices ≤ 32 = omega arith in
    record {
      is_slot = omega arith;
      few = omega arith;
      behind = λ k d below. fits_behind (division_of outer slot inner) (length inner.slices) _ room (known k d below);
    }

-- each outer rule names outer slices
pub outer_known : (outer : PolicyView) (slot : ℕ) (inner : PolicyView) → IsGiven outer slot inner → All (NamesSlots ((length outer.slices - 1) + 1)) (in_order outer.rules)
outer_known outer slot inner given =
    subst (λ n. All (NamesSlots n) (in_order outer.rules)) (others_more (length outer.slices) slot given.is_slot) (names_in_order outer.slices outer.rules given.outer_policy.proper)

-- ---- how many rules

parts_count_in_order : (slot : ℕ) (inner : List Rule) (r : Rule) → parts_count slot (in_order inner) r ≡ parts_count slot inner r
parts_count_in_order slot inner r =
    elim (cases_Bool (is_written_by slot r)) [
      | inl is ↦ rw is (sum_by-IsPermutation (λ x. if may_join r x then 1 else 0) inner (in_order inner) (IsPermutation-in_order inner))
      | inr isnt ↦ rw isnt refl
    ]

-- the count is the same in whichever order the rules stand
pub counted_as_filed : (outer : PolicyView) (slot : ℕ) (inner : PolicyView) → flat_count slot inner.rules outer.rules ≡ length (flat outer slot inner).rules
unfolding flat
counted_as_filed outer slot inner =
    sym (sum_by-IsPermutation (parts_count slot inner.rules) outer.rules (in_order outer.rules) (IsPermutation-in_order outer.rules))
    ∙ sym (sums_same (parts_count slot (in_order inner.rules)) (parts_count slot inner.rules) (in_order outer.rules) (parts_count_in_order slot inner.rules))
    ∙ sym (counted (division_of outer slot inner) (in_order outer.rules))

pub divided_length : (outer : PolicyView) (slot : ℕ) (inner : PolicyView) → length (divided (division_of outer slot inner) (in_order outer.rules)) ≡ length (flat outer slot inner).rules
unfolding flat
divided_length outer slot inner = sym (by_place_length (divided (division_of outer slot inner) (in_order outer.rules)))

-- ---- what the code has, by other words

abbrev division_at : ℕ → ℕ → List Rule → DivisionView
division_at slot others rules = record { slot = slot; others = others; rules = rules }

-- the division that is made of a policy's count of slices and the inner rules in order
pub is_division : (outer : PolicyView) (slot : ℕ) (inner : PolicyView) (count : ℕ) (rules : List Rule) → count ≡ length outer.slices → rules ≡ in_order inner.rules
    → division_of outer slot inner ≡ record { slot = slot; others = count - 1; rules = rules }
is_division outer slot inner count rules same ordered = ap (λ n. division_at slot n (in_order inner.rules)) (ap (λ n. n - 1) (sym same)) ∙ ap (division_at slot (count - 1)) (sym ordered)

pub all_known : (outer : PolicyView) (slot : ℕ) (inner : PolicyView) (count : ℕ) (rules : List Rule) → count ≡ length outer.slices → rules ≡ in_order outer.rules → IsGiven outer slot inner → All (NamesSlots ((count - 1) + 1)) rules
all_known outer slot inner count rules same ordered given =
    subst (λ rs. All (NamesSlots ((count - 1) + 1)) rs) (sym ordered) (subst (λ n. All (NamesSlots ((n - 1) + 1)) (in_order outer.rules)) (sym same) (outer_known outer slot inner given))

pub list_of : (outer : PolicyView) (slot : ℕ) (inner : PolicyView) (count : ℕ) (qs rs made : List Rule) → count ≡ length outer.slices → qs ≡ in_order inner.rules → rs ≡ in_order outer.rules
    → made ≡ divided (record { slot = slot; others = count - 1; rules = qs }) rs → made ≡ divided (division_of outer slot inner) (in_order outer.rules)
list_of outer slot inner count qs rs made same ordered outside is =
    is ∙ ap (λ d. divided d rs) (sym (is_division outer slot inner count qs same ordered)) ∙ ap (divided (division_of outer slot inner)) outside

pub made_flat : (outer : PolicyView) (slot : ℕ) (inner : PolicyView) (made : List Rule) → made ≡ divided (division_of outer slot inner) (in_order outer.rules) → by_place made ≡ (flat outer slot inner).rules
unfolding flat
made_flat outer slot inner made is = ap by_place is
