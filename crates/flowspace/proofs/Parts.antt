-- What holds of a policy holds of its part for one switch.
use Rattle.std.proofs.Common.{◌≡◌, ℕ, ◌<◌, ◌≤◌, ◌^◌, false, IsTrue, List, cond, length, filter, AllPairs, All, IfSome, Option, Some, None, count_by, refl, sym, ◌∙◌, arith, not, eqb-true, eq-eqb}
use Rattle.std.proofs.lemmas.List.Sorted.{All-permutation, length_permutation, sum_by-IsPermutation}
use Rattle.std.proofs.lemmas.List.Elements.{All-filter, filter_passes}
use Rattle.std.proofs.lemmas.List.Filters.{length-filter_both, sum_by-filter_both}
use Rattle.std.proofs.lemmas.List.Kept.{AllPairs-filter}
use Rattle.flowspace.specs.declared.slices.Slice.{Slice}
use Rattle.flowspace.specs.declared.rules.Rule.{Rule}
use Rattle.flowspace.specs.Rules.{holds, names_switch, have_switch, is_written_by, is_own_reader, IsPlainRule, Yields}
use Rattle.flowspace.specs.Order.{in_order, rules_on}
use Rattle.flowspace.specs.Policies.{AreProper, IsPolicy, IsSwitchPolicy}
use Rattle.flowspace.proofs.Ordering.{IsPermutation-in_order, HasNoLower-in_order, in_order-filter}

-- ---- the part for a switch

All-rules_on : (P : Rule → Type 0) (rs : List Rule) (datapath : ℕ) → All P rs → All P (rules_on datapath rs)
All-rules_on P rs datapath all =
    let on = filter (holds datapath) rs in All-permutation P on (in_order on) (IsPermutation-in_order on) (All-filter (holds datapath) P rs all)

AreProper-rules_on : (ss : List Slice) (rs : List Rule) (datapath : ℕ) → AreProper ss rs → AreProper ss (rules_on datapath rs)
AreProper-rules_on ss rs datapath h =
    let on = filter (holds datapath) rs in
    let same = IsPermutation-in_order on in
    let few : length on ≤ length rs = omega (arith, length-filter_both (holds datapath) (λ r. not (holds datapath r)) (λ _. refl) rs) in
    let long : length (in_order on) ≡ length on = length_permutation on (in_order on) same in
    record {
      some_slice = h.some_slice;
      few_slices = h.few_slices;
      few_rules = omega (arith, h.few_rules);
      plain_slices = h.plain_slices;
      plain_rules = All-rules_on IsPlainRule rs datapath h.plain_rules;
      names_differ = h.names_differ;
      writers_known = All-rules_on (λ r. IfSome r.writer (λ w. w < length ss)) rs datapath h.writers_known;
      readers_known = All-rules_on (λ r. r.readers < 2 ^ length ss) rs datapath h.readers_known;
      readers_apart = All-rules_on (λ r. is_own_reader r ≡ false) rs datapath h.readers_apart;
      few_writes = λ slot.
          let moved : count_by (is_written_by slot) (in_order on) ≡ count_by (is_written_by slot) on = sum_by-IsPermutation _ on (in_order on) same in
          omega (arith, h.few_writes slot, sum_by-filter_both (holds datapath) (λ r. not (holds datapath r)) (λ _. refl) (λ r. cond (is_written_by slot r) 1 0) rs);
    }

-- two rules that hold on one switch
pub have_switch-names : (datapath : ℕ) (c d : Option ℕ) → IsTrue (names_switch c datapath) → IsTrue (names_switch d datapath) → IsTrue (have_switch c d)
have_switch-names datapath None d h k = refl
have_switch-names datapath (Some x) None h k = refl
have_switch-names datapath (Some x) (Some y) h k = eq-eqb y x (eqb-true y datapath k ∙ sym (eqb-true x datapath h))

All-holds : (datapath : ℕ) (rs : List Rule) → All (λ r. IsTrue (holds datapath r)) (filter (holds datapath) rs)
All-holds datapath rs = filter_passes (holds datapath) rs

one_switch-rules_on : (rs : List Rule) (datapath : ℕ) → AllPairs (λ a b. IsTrue (have_switch a.switch b.switch)) (rules_on datapath rs)
one_switch-rules_on rs datapath = λ i j d lt long.
    let on = filter (holds datapath) rs in
    let held = All-permutation (λ r. IsTrue (holds datapath r)) on (in_order on) (IsPermutation-in_order on) (All-holds datapath rs) in
    have_switch-names datapath _ _ (held i d (omega arith)) (held j d long)

pub IsSwitchPolicy-rules_on : (ss : List Slice) (rs : List Rule) (datapath : ℕ) → IsPolicy ss rs → IsSwitchPolicy ss (rules_on datapath rs)
IsSwitchPolicy-rules_on ss rs datapath h = record {
  proper = AreProper-rules_on ss rs datapath h.proper;
  one_switch = one_switch-rules_on rs datapath;
  descending = HasNoLower-in_order (filter (holds datapath) rs);
  accepted = rw (in_order-filter (holds datapath) rs) (AllPairs-filter Yields (holds datapath) (in_order rs) h.accepted);
}
